pub mod Numbers
pub mod Host
pub mod HostLaws
