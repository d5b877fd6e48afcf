pub mod HistoryMatchesBench
pub mod AbsentCrashed
pub mod PlainStarts
pub mod RewrittenCalls
