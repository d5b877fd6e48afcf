-- All the invariants of safety in one: the opened bench has them, and every accepted record keeps them.
use Rattle.std.specs.Prelude.{ℕ}
use Rattle.agreement.specs.View.View.{View, OneStep, Opened}
use Rattle.agreement.specs.View.Basic.{Basic}
use Rattle.agreement.specs.Invariants.BasicKept.{basic_opened, basic_step}
use Rattle.agreement.specs.Invariants.Estimates.{Estimates, estimates_opened, estimates_step}
use Rattle.agreement.specs.Invariants.Decisions.{Decisions, decisions_opened, decisions_step}

pub record Good (n t : ℕ) (s : View) : Type 0 where
  pub basic : Basic n t s
  pub estimates : Estimates n t s
  pub decisions : Decisions n t s

pub good_opened : (n t : ℕ) (s : View) → Opened s → Good n t s
good_opened n t s O =
    record { basic = basic_opened n t s O; estimates = estimates_opened n t s O; decisions = decisions_opened n t s O }

pub good_step : (n t : ℕ) (s s' : View) → Good n t s → OneStep n t s s' → Good n t s'
good_step n t s s' G S = record {
  basic = basic_step n t s s' G.basic S;
  estimates = estimates_step n t s s' G.basic G.estimates S;
  decisions = decisions_step n t s s' G.basic G.estimates G.decisions S;
}
