-- What the laws of bench say of run's code, with the parts of the bench named that it reads and stores: each event's
-- check and effect, and a turn of the loop.
use Rattle.std.specs.Prelude.{◌≡◌, ◌≢◌, Bool, List, true, false, ℕ, ◌+◌, ◌-◌, ◌*◌, ◌≤◌, ◌<◌, length, get_or, set, take, drop, ◌++◌, min, Result, Ok, Err, Option, Some, None}
use Rattle.std.proofs.Math.Path.{refl, sym, ap, subst}
use Rattle.std.proofs.Common.{◌∙◌, ⊎_elim, take_all, drop_of_length-le}
use Rattle.std.proofs.Math.Seq.{take-append_seam, drop-append_seam, take-length}
use Rattle.std.specs.Option.{option_or}
use native.Mathlib.Omega.{arith}
use Rattle.sets.specs.Set.{insert_of, remove_of}
use Rattle.sets.specs.Truth.{select, same, ◌or◌}
use Rattle.sets.specs.TruthLaws.{and_first, Is, on, off, is, clash, select_on, select_off, check-zero, same_on, same_off, same_not, same_mk, le-or}
use Rattle.global_data.specs.declared.GlobalData.{GlobalData}
use Rattle.process.specs.declared.Process.{Process}
use Rattle.process.specs.declared.Closing.{Closing}
use Rattle.global_data.proofs.PassLaws.{Passing}
use Rattle.process.specs.Laws.{decide_decided, open_round}
use Rattle.process.specs.Fields.{with_estimate}
use Rattle.process.specs.ClosingLaws.{closing_by, finish_of}
use Rattle.process.proofs.ClosingLaws.{close_passed}
use Rattle.process.specs.Steps.{has_decided, open_round_of, start_of, next_of, filled_of}
use Rattle.process.specs.Steps.{decides_of, advance_of, close_of, message_of, send_of, suspect_of, receive_of, adopt_of}
use Rattle.refusal.specs.declared.Refusal.{Refusal}
use Rattle.refusal.specs.Numbers.{refused, refusal_number}
use Rattle.refusal.proofs.NumberLaws.{refused_number}
use Rattle.bench.specs.declared.Bench.{Bench}
use Rattle.bench.specs.declared.Message.{Message}
use Rattle.bench.specs.declared.Message.TheVariants.{Estimate, Decision}
use Rattle.bench.specs.declared.Event.{Event}
use Rattle.bench.specs.declared.Event.TheVariants.{Start, Send, Arrive, Close, Crash, Suspect}
use Rattle.bench.specs.State.{bench_of, process_at, sent_at, transit_at, crashed_at, with_process, with_sent, with_transit, with_crashed}
use Rattle.bench.specs.Sound.{sound_of}
use Rattle.bench.proofs.SoundLaws.{sound_on, sound_step}
use Rattle.bench.proofs.RecordLaws.{MessageIn, InRange, decode_refused}
use Rattle.bench.specs.Record.{decode_of, v2, decode_as}
use Rattle.bench.proofs.RefuseLaws.{refusal_unread, refusal_event, refused-keeps, accepted_effect}
use Rattle.bench.proofs.ClosingLaws.{closing_event}
use Rattle.bench.specs.declared.Cause.TheVariants.{Empty, Spent, Refused}
use Rattle.bench.specs.RunLoop.{effect_decoded, effect_by, effect_of, closing_in, ended_of, run_from}
use Rattle.bench.proofs.RunLaws.{run_empty, run_spent, run-refused, run_accepted, run_sound}
use Rattle.bench.specs.Refuse.{number_of, actor, is_crash, passes7, passes8, passes9, refuses, refusal}
use Rattle.bench.specs.Effect.{opens_round, rows_at, sends, arrives, closes_as, effect}
use Rattle.bench.specs.Closings.{closing_at, last_of}
use Rattle.bench.specs.Calls.{answer_of, after_record, run_of}
use Rattle.checks.specs.Checks.{start_check, message_check, close_check}
use Rattle.checks.specs.Checks.{crash_check, suspect_check, takes_started}
use Rattle.run.specs.Events.{after_event, verdict_of, closed_of}
use Rattle.run.specs.PlaceLaws.{rows_in}

-- ---- a verdict with a number k: accepted, the number is 0; refused, it is that of the refusal
module _ {A : Type 0} (k : ℕ) (x : A) where
  pub verdict_ok : (z : A) → Ok z ≡ verdict_of k x → (k ≡ 0) × (z ≡ x)
  unfolding verdict_of
  verdict_ok z h = go (is (same k 0))
    where
      go : Is (same k 0) → (k ≡ 0) × (z ≡ x)
      go (on e) = let p : Ok z ≡ Ok x = h ∙ select_on _ _ _ e in (same_on k 0 e, cc p)
      go (off e) = let p : Ok z ≡ Err (refused k) = h ∙ select_off _ _ _ e in absurd (cc p)

  pub verdict_err : (r : Refusal) → Err r ≡ verdict_of k x → (k ≢ 0) × (r ≡ refused k)
  unfolding verdict_of
  verdict_err r h = go (is (same k 0))
    where
      go : Is (same k 0) → (k ≢ 0) × (r ≡ refused k)
      go (on e) = let p : Err r ≡ Ok x = h ∙ select_on _ _ _ e in absurd (cc p)
      go (off e) = let p : Err r ≡ Err (refused k) = h ∙ select_off _ _ _ e in (same_not k 0 e, cc p)

  accepts : k ≡ 0 → Ok x ≡ verdict_of k x
  unfolding verdict_of
  accepts z = sym (select_on _ _ _ (same_mk k 0 z))

  refuses_by : (r : Refusal) → (k ≢ 0) × (r ≡ refused k) → Err r ≡ verdict_of k x
  unfolding verdict_of
  refuses_by r e = ap Err e.1 ∙ sym (select_off _ _ _ (same_off k 0 e.0))

-- told on: the same refusal, or f of what was accepted
module _ {A B : Type 0} (k : ℕ) (x : A) (f : A → B) where
  pub told_err : (r : Refusal) → Err r ≡ verdict_of k x → Err r ≡ verdict_of k (f x)
  told_err r h = refuses_by k (f x) r (verdict_err k x r h)

  pub told_ok : (z : A) → Ok z ≡ verdict_of k x → Ok (f z) ≡ verdict_of k (f x)
  told_ok z h = let e = verdict_ok k x z h in ap (λ (y : A). Ok (f y)) e.1 ∙ accepts k (f x) e.0

-- an answer is a verdict that tells nothing
module _ (k : ℕ) where
  answer_is : answer_of k ≡ verdict_of k tt
  unfolding answer_of verdict_of
  answer_is = refl

  pub answer_ok : Ok tt ≡ answer_of k → k ≡ 0
  answer_ok h = (verdict_ok k tt tt (h ∙ answer_is)).0

  pub answer_err : (r : Refusal) → Err r ≡ answer_of k → (k ≢ 0) × (r ≡ refused k)
  answer_err r h = verdict_err k tt r (h ∙ answer_is)

  pub accepted_as : {A : Type 0} (x : A) → Ok tt ≡ answer_of k → Ok x ≡ verdict_of k x
  accepted_as x h = accepts k x (answer_ok h)

  pub refused_as : {A : Type 0} (x : A) (r : Refusal) → Err r ≡ answer_of k → Err r ≡ verdict_of k x
  refused_as x r h = refuses_by k x r (answer_err r h)

-- ---- an event with the number k, which the code's check gives
module _ (e : Event) (s : Bench) (k : ℕ) (p : refuses e s ≡ k) where
  pub stays : (r : Refusal) → Err r ≡ answer_of k → s ≡ after_event e s
  unfolding after_event
  stays r h = sym (select_off _ _ _ (same_off _ 0 (λ z. (answer_err k r h).0 (sym p ∙ z))))

  pub same_answer : (x : Result (Unit {0}) Refusal) → x ≡ answer_of k → x ≡ answer_of (refuses e s)
  same_answer x h = rw p h

  pub goes : Ok tt ≡ answer_of k → (d : Bench) → d ≡ effect e s → d ≡ after_event e s
  unfolding after_event
  goes h d q = q ∙ sym (select_on _ _ _ (same_mk _ 0 (p ∙ answer_ok k h)))

-- ---- each event's check is that of the code, on the parts of the bench
module _ (s : Bench) where
  pub refuses_start : (a v : ℕ) → refuses (Start a v) s ≡ start_check s.crashed a (process_at s a).round
  unfolding refuses actor is_crash passes7 passes8 passes9 ◌or◌ crashed_at
  refuses_start a v = refl

  pub refuses_send : (a b : ℕ) → refuses (Send a b) s ≡ message_check s.crashed a (process_at s a).outbox b
  unfolding refuses actor is_crash passes7 passes8 passes9 ◌or◌ crashed_at
  refuses_send a b = refl

  -- the set in transit of the message m of a is at j
  pub refuses_arrive : (a b j : ℕ) (m : Message) → j ≡ a * 17 + number_of m
      → refuses (Arrive a b m) s ≡ message_check s.crashed b (get_or s.in_transit j 0) b
  unfolding refuses actor is_crash passes7 passes8 passes9 ◌or◌ crashed_at transit_at
  refuses_arrive a b j m e = rw e

  pub refuses_close : (a : ℕ) → refuses (Close a) s ≡ close_check s.crashed a (process_at s a)
  unfolding refuses actor is_crash passes7 passes8 passes9 ◌or◌ crashed_at
  refuses_close a = refl

  pub refuses_crash : (a : ℕ) → refuses (Crash a) s ≡ crash_check s.crashed a s.t
  unfolding refuses actor is_crash passes7 passes8 passes9 ◌or◌ crashed_at
  refuses_crash a = refl

  pub refuses_suspect : (a b : ℕ) → refuses (Suspect a b) s ≡ suspect_check s.crashed a (process_at s a).suspected b
  unfolding refuses actor is_crash passes7 passes8 passes9 ◌or◌ crashed_at
  refuses_suspect a b = refl

-- ---- what an event of a sound bench names is below 16
unfoldable pub Low : Event → Type 0
Low (Start a v) = a < 16
Low (Send a b) = (a < 16) × (b < 16)
Low (Arrive a b m) = (a < 16) × (b < 16) × MessageIn 15 m
Low (Close a) = a < 16
Low (Crash a) = a < 16
Low (Suspect a b) = (a < 16) × (b < 16)

low_in : (n t : ℕ) → n < 17 → t < n → (e : Event) → InRange n t e → Low e
unfolding InRange MessageIn Low
low_in n t p q (Start a v) h = omega arith
low_in n t p q (Send a b) h = (omega (arith, h.first), omega (arith, h.second))
low_in n t p q (Arrive a b (Estimate r)) h =
    (omega (arith, h.0.first), omega (arith, h.0.second), (h.1.0, omega (arith, h.1.1)))
low_in n t p q (Arrive a b Decision) h = (omega (arith, h.0.first), omega (arith, h.0.second), tt)
low_in n t p q (Close a) h = omega arith
low_in n t p q (Crash a) h = omega arith
low_in n t p q (Suspect a b) h = (omega (arith, h.first), omega (arith, h.second))

module _ (s : Bench) (h : sound_of s ≡ true) where
  pub sizes_low : (s.n ≤ 16) × (s.t < 16)
  sizes_low = let b = sound_on s h in (omega (arith, b.few), omega (arith, b.few, b.limit))

  pub round_low : (a : ℕ) → (process_at s a).round ≤ s.t + 1
  unfolding process_at
  round_low a = omega (arith, ((sound_on s h).process a).round)

  pub round_last : (a : ℕ) → (process_at s a).round ≤ 16
  round_last a = omega (arith, sizes_low.1, round_low a)

  pub event_low : (e : Event) → InRange s.n s.t e → Low e
  event_low e i = let b = sound_on s h in low_in s.n s.t b.few b.limit e i

-- ---- a message's number is at most 16
pub number_low : (m : Message) → MessageIn 15 m → number_of m ≤ 16
unfolding MessageIn number_of
number_low (Estimate r) h = h.1
number_low Decision h = omega arith

pub message_low : (p : Process) → p.round ≤ 16 → message_of p ≤ 16
unfolding message_of
message_low p h = go (is (has_decided p))
  where
    go : Is (has_decided p) → select (has_decided p) 0 p.round ≤ 16
    go (on e) = rw (select_on (has_decided p) 0 p.round e) (omega arith)
    go (off e) = rw (select_off (has_decided p) 0 p.round e) h

-- ---- rounds: a start opens round 1
pub start_round : (n a v : ℕ) (p q : Process) → q ≡ start_of n a v p → q.round ≡ 1
unfolding start_of open_round_of
start_round n a v p q e = let r : q.round ≡ 1 = ap (λ (p : Process). p.round) e in omega arith

-- a close that is let through is of a process that has started
pub close_started : (crashed a : ℕ) (p : Process) → close_check crashed a p ≡ 0 → 1 ≤ p.round
close_started crashed a p z =
    let c = check-zero _ 6 _ (omega arith) z in
    let q = check-zero _ 7 _ (omega arith) c.1 in
    takes_started p (and_first _ _ q.0)

-- and where it does not decide, it opens the next round, which is not past the last
module _ (n t a : ℕ) (rows : ℕ → GlobalData) (p : Process) where
  pub close_opens : has_decided (close_of n t a rows p) ≡ false
      → ((close_of n t a rows p).round ≡ p.round + 1) × (p.round ≢ t + 1)
  unfolding close_of advance_of open_round_of
  close_opens e = go (is (decides_of n t a rows p))
    where
      go : Is (decides_of n t a rows p) → ((close_of n t a rows p).round ≡ p.round + 1) × (p.round ≢ t + 1)
      go (on d) =
          clash _ (decide_decided p _ _)
          (rw (select_on (decides_of n t a rows p) _ (advance_of a (filled_of a rows p) p) d) at e)
      go (off d) = (
        rw (select_off (decides_of n t a rows p) _ (advance_of a (filled_of a rows p) p) d),
        open_round n t a rows p d,
      )

-- ---- effects, on the parts of the bench that the code stores
module _ (s : Bench) where
  -- process a has opened a round as p, whose row is at j
  abbrev pub opened_at : ℕ → ℕ → Process → Bench
  opened_at a j p = bench_of s.n s.t s.crashed (set s.processes a p) (set s.sent j p.estimate) s.in_transit

  opened_at_lem : (a j : ℕ) (p : Process) → j ≡ a * 16 + (p.round - 1) → opened_at a j p ≡ opens_round s a p
  unfolding opens_round with_process with_sent
  opened_at_lem a j p e = rw e

  pub effect_start : (a v j : ℕ) (p : Process) → j ≡ a * 16 + (p.round - 1) → p ≡ start_of s.n a v (process_at s a)
      → opened_at a j p ≡ effect (Start a v) s
  unfolding effect
  effect_start a v j p e h = opened_at_lem a j p e ∙ ap (opens_round s a) h

  -- process b is p now, and the set in transit at j is m
  abbrev pub moved_at : ℕ → ℕ → Process → ℕ → Bench
  moved_at j b p m = bench_of s.n s.t s.crashed (set s.processes b p) s.sent (set s.in_transit j m)

  pub effect_send : (a b j m : ℕ) (p : Process) → j ≡ a * 17 + message_of (process_at s a)
      → p ≡ send_of b (process_at s a) → m ≡ insert_of (get_or s.in_transit j 0) b
      → moved_at j a p m ≡ effect (Send a b) s
  unfolding effect sends with_process with_transit transit_at
  effect_send a b j m p e h w = rw (w, e, h)

  pub effect_receive : (a b r j m : ℕ) (k : Message) (p : Process) → k ≡ Estimate r → j ≡ a * 17 + number_of k
      → p ≡ receive_of a r (process_at s b) → m ≡ remove_of (get_or s.in_transit j 0) b
      → moved_at j b p m ≡ effect (Arrive a b k) s
  unfolding effect arrives with_process with_transit transit_at number_of
  effect_receive a b r j m k p q e h w = rw (w, e, q, h)

  pub effect_adopt : (a b j m : ℕ) (k : Message) (p : Process) → k ≡ Decision → j ≡ a * 17 + number_of k
      → p ≡ adopt_of s.n b a (process_at s a).estimate (process_at s b) → m ≡ remove_of (get_or s.in_transit j 0) b
      → moved_at j b p m ≡ effect (Arrive a b k) s
  unfolding effect arrives with_process with_transit transit_at number_of
  effect_adopt a b j m k p q e h w = rw (w, e, q, h)

  pub effect_crash : (a m : ℕ) → m ≡ insert_of s.crashed a
      → bench_of s.n s.t m s.processes s.sent s.in_transit ≡ effect (Crash a) s
  unfolding effect with_crashed
  effect_crash a m e = rw e

  pub effect_suspect : (a b : ℕ) (p : Process) → p ≡ suspect_of b (process_at s a)
      → with_process s a p ≡ effect (Suspect a b) s
  unfolding effect
  effect_suspect a b p h = ap (with_process s a) h

-- ---- what a close of a comes to: q is the process then, x the code's closing
pub record Closes (x : Closing) (s : Bench) (a : ℕ) (q : Process) : Type 0 where
  pub closing : x ≡ closed_of a s
  pub decides : has_decided q ≡ true → with_process s a q ≡ effect (Close a) s
  pub opens : has_decided q ≡ false → (j : ℕ) → j ≡ a * 16 + (q.round - 1) → opened_at s a j q ≡ effect (Close a) s
  pub round : has_decided q ≡ false → s.t < 16 → (process_at s a).round ≤ s.t + 1 → (1 ≤ q.round) × (q.round ≤ 16)

-- once it is made: the process and the closing are those of the definitions, on the rows of the round
module _ (x : Closing) (s : Bench) (a : ℕ) (q : Process)
    (closed : (q ≡ close_of s.n s.t a (rows_at s (process_at s a).round) (process_at s a)) × (x ≡ closed_of a s)) where
  opened : has_decided q ≡ false → (q.round ≡ (process_at s a).round + 1) × ((process_at s a).round ≢ s.t + 1)
  opened d =
      subst (λ (p : Process). (p.round ≡ (process_at s a).round + 1) × ((process_at s a).round ≢ s.t + 1)) (sym closed.0)
      (close_opens s.n s.t a (rows_at s (process_at s a).round) (process_at s a)
      (subst (λ (p : Process). has_decided p ≡ false) closed.0 d))

  pub closes : Closes x s a q
  unfolding effect closes_as
  closes =
      record {
        closing = closed.1;
        decides = λ d. rw (← closed.0) (sym (select_on (has_decided q) (with_process s a q) (opens_round s a q) d));
        opens =
            λ d j e.
            opened_at_lem s a j q e
            ∙ rw (← closed.0) (sym (select_off (has_decided q) (with_process s a q) (opens_round s a q) d));
        round = λ d l m. omega (arith, (opened d).0, (opened d).1);
      }

-- so the last closing of a run that had c before is that of the definitions
pub closes_last : {x : Closing} {s : Bench} {a : ℕ} {q : Process} (c : Option Closing) → Closes x s a q
    → last_of c (Some x) ≡ last_of c (closing_at (Close a) s)
unfolding closing_at closed_of
closes_last c w = ap (λ (y : Closing). last_of c (Some y)) w.closing

-- the same once its pass is made: `next` is the next set, and q the process but for the estimate
module _ (x : Closing) (s : Bench) (a r next seen : ℕ) (g : GlobalData) (alike : Bool) (q : Process)
    (e : r ≡ (process_at s a).round - 1) (f : next ≡ next_of a (process_at s a))
    (w : Passing s.n (remove_of next a) (rows_in s.sent r) (process_at s a).estimate seen 0 g alike)
    (few : s.n ≤ 16) (k : (q ≡ finish_of s.n s.t a next alike (process_at s a))
    × (x ≡ closing_by s.t next alike (process_at s a))) where
  pub pass_closes : Closes x s a (with_estimate g q)
  unfolding rows_at sent_at closed_of
  pass_closes =
      closes x s a (with_estimate g q)
      (close_passed s.n s.t a (rows_at s (process_at s a).round) (process_at s a) next seen g alike q x f (rw e at w) few k)

-- ---- one record of a sound bench, whose bytes are l
module _ (s : Bench) (l : List ℕ) (h : sound_of s ≡ true) where
  -- it is refused before an event is known
  module _ (r : Refusal) (d : Err r ≡ decode_of s.n s.t l) where
    unread : refusal s l ≡ refusal_number r
    unread = refusal_unread s l h r (sym d)

    pub unread_keeps : s ≡ after_record s l
    unread_keeps = sym (refused-keeps s l (λ z. decode_refused s.n s.t l r (sym d) (sym unread ∙ z)))

    pub unread_as : {A : Type 0} (x : A) → Err r ≡ verdict_of (refusal s l) x
    unfolding verdict_of
    unread_as x =
        ap Err (sym (refused_number r) ∙ ap refused (sym unread))
        ∙ sym (select_off _ _ _ (same_off _ 0 (λ z. decode_refused s.n s.t l r (sym d) (sym unread ∙ z))))

  -- or it is what its event is
  module _ (e : Event) (d : Ok e ≡ decode_of s.n s.t l) where
    numbered : refusal s l ≡ refuses e s
    numbered = refusal_event s l h e (sym d)

    pub event_bench : after_event e s ≡ after_record s l
    unfolding after_event effect_of effect_by effect_decoded decode_as
    event_bench = go (is (same (refuses e s) 0))
      where
        go : Is (same (refuses e s) 0) → after_event e s ≡ after_record s l
        go (on z) =
            select_on _ _ _ z
            ∙ sym (accepted_effect s l (numbered ∙ same_on _ 0 z) ∙ rw (sym d))
        go (off z) =
            select_off _ _ _ z ∙ sym (refused-keeps s l (λ y. same_not _ 0 z (sym numbered ∙ y)))

    pub event_verdict : verdict_of (refuses e s) (closing_at e s) ≡ verdict_of (refusal s l) (closing_in s l)
    unfolding verdict_of
    event_verdict = go (is (same (refuses e s) 0))
      where
        go : Is (same (refuses e s) 0) → verdict_of (refuses e s) (closing_at e s) ≡ verdict_of (refusal s l) (closing_in s l)
        go (on z) = rw (numbered, closing_event s l e (numbered ∙ same_on _ 0 z) (sym d))
        go (off z) = rw numbered (select_off _ _ _ z ∙ sym (select_off _ _ _ z))

-- ---- the next at most 8 bytes, and those after them
module _ (x t : List ℕ) where
  parted : (k : ℕ) → length x ≡ k → (x ≡ take k (x ++ t)) × (t ≡ drop k (x ++ t))
  parted k h = rw (← h) (sym (take-append_seam x t), sym (drop-append_seam x t))

  pub next_record : (l : List ℕ) → l ≡ x ++ t → length x ≡ min 8 (length l) → (x ≡ take 8 l) × (t ≡ drop 8 l)
  next_record l e h = ⊎_elim whole last (le-or 8 (length l))
    where
      whole : 8 ≤ length l → (x ≡ take 8 l) × (t ≡ drop 8 l)
      whole f = rw e (parted 8 (omega arith))

      last : length l < 8 → (x ≡ take 8 l) × (t ≡ drop 8 l)
      last f =
          let p : (x ≡ take (length l) l) × (t ≡ drop (length l) l) =
          rw e (parted (length (x ++ t)) (omega (arith, ap length e))) in (
            p.0 ∙ take-length l ∙ sym (take_all 8 l (omega arith)),
            p.1 ∙ drop_of_length-le l {i = length l} (omega arith) ∙ sym (drop_of_length-le l {i = 8} (omega arith)),
          )

-- of two closings the later one
pub later : (c d : Option Closing) → option_or d c ≡ last_of c d
unfolding last_of select
later c None = refl
later c (Some x) = refl

-- ---- the loop's head: the run from s on, of `rest`, gives what the whole run of l from b gives
pub record Running (budget : ℕ) (l : List ℕ) (b s : Bench) (rest : List ℕ) (accepted : ℕ) (c : Option Closing) : Type 0 where
  pub sound : sound_of s ≡ true
  pub within_budget : accepted ≤ budget
  pub gives : run_from v2 (budget - accepted) rest s accepted c (8 * accepted) ≡ run_of budget l b

pub running_new : (budget : ℕ) (l : List ℕ) (b : Bench) → sound_of b ≡ true → Running budget l b b l 0 None
running_new budget l b e =
    record {
      sound = e;
      within_budget = omega arith;
      gives = let z : budget - 0 ≡ budget = omega arith in rw (run_sound budget l b e, z);
    }

module _ (budget : ℕ) (l : List ℕ) (b s : Bench) (rest : List ℕ) (accepted : ℕ) (c : Option Closing)
    (w : Running budget l b s rest accepted c) where
  pub ends_empty : length rest ≡ 0 → ended_of s accepted Empty c (8 * accepted) ≡ run_of budget l b
  ends_empty h = sym (run_empty rest s accepted c (8 * accepted) (budget - accepted) h) ∙ w.gives

  pub ends_spent : length rest ≢ 0 → accepted ≡ budget → ended_of s accepted Spent c (8 * accepted) ≡ run_of budget l b
  ends_spent h e = sym (run_spent rest s accepted c (8 * accepted) (budget - accepted) h (omega arith)) ∙ w.gives

  module _ (h : length rest ≢ 0) (f : accepted ≢ budget) where
    budget_left : budget - accepted ≢ 0
    budget_left u = f (omega (arith, w.within_budget))

    -- the next record is refused, which leaves the bench as it is
    pub ends_refused : (r : Refusal) → Err r ≡ verdict_of (refusal s (take 8 rest)) (closing_in s (take 8 rest))
        → ended_of (after_record s (take 8 rest)) accepted (Refused r) c (8 * accepted) ≡ run_of budget l b
    ends_refused r v =
        let p = verdict_err _ _ r v in
        rw (p.1, refused-keeps s (take 8 rest) p.0)
        (sym (run-refused rest s accepted c (8 * accepted) (budget - accepted) h budget_left p.0) ∙ w.gives)

    -- it is accepted, and x tells how it ended a round
    pub goes_on : (x : Option Closing)
        → Ok x ≡ verdict_of (refusal s (take 8 rest)) (closing_in s (take 8 rest))
        → Running budget l b (after_record s (take 8 rest)) (drop 8 rest) (accepted + 1) (last_of c x)
    goes_on x v =
        let p = verdict_ok _ _ x v in
        let one : budget - accepted - 1 ≡ budget - (accepted + 1) = omega arith in
        let eight : 8 * accepted + 8 ≡ 8 * (accepted + 1) = omega arith in
        record {
          sound = sound_step s (take 8 rest) w.sound;
          within_budget = omega (arith, f, w.within_budget);
          gives =
              rw (p.1, ← one, ← eight, accepted_effect s (take 8 rest) p.0)
              (sym (run_accepted rest s accepted c (8 * accepted) (budget - accepted) h budget_left p.0) ∙ w.gives);
        }
