-- A process by its fields, and with one of them changed: so each step says what it changes and no more.
use Rattle.std.specs.Prelude.{List, ℕ}
use Rattle.global_data.specs.declared.GlobalData.{GlobalData}
use Rattle.process.specs.declared.Process.{Process}

-- its fields in the order of the struct
abbrev pub made : ℕ → ℕ → ℕ → ℕ → ℕ → ℕ → GlobalData → List ℕ → Process
made r d p c s o g l =
    record { round = r; decided = d; previous = p; current = c; suspected = s; outbox = o; estimate = g; received = l }

abbrev pub with_round : ℕ → Process → Process
with_round r p = made r p.decided p.previous p.current p.suspected p.outbox p.estimate p.received

abbrev pub with_decided : ℕ → Process → Process
with_decided d p = made p.round d p.previous p.current p.suspected p.outbox p.estimate p.received

abbrev pub with_previous : ℕ → Process → Process
with_previous m p = made p.round p.decided m p.current p.suspected p.outbox p.estimate p.received

abbrev pub with_current : ℕ → Process → Process
with_current m p = made p.round p.decided p.previous m p.suspected p.outbox p.estimate p.received

abbrev pub with_suspected : ℕ → Process → Process
with_suspected m p = made p.round p.decided p.previous p.current m p.outbox p.estimate p.received

abbrev pub with_outbox : ℕ → Process → Process
with_outbox m p = made p.round p.decided p.previous p.current p.suspected m p.estimate p.received

abbrev pub with_estimate : GlobalData → Process → Process
with_estimate g p = made p.round p.decided p.previous p.current p.suspected p.outbox g p.received

abbrev pub with_received : List ℕ → Process → Process
with_received l p = made p.round p.decided p.previous p.current p.suspected p.outbox p.estimate l
