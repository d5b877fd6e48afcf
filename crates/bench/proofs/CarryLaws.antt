-- Laws of carrying: what it answers by its two checks; what a carried bench holds, entry by entry; and that a bench
-- without a value above 65,535 is kept so by every event but a start with one. Event by event: estimates and rows are
-- made of values of starts and of entries that other estimates and rows have.
use Rattle.std.specs.Prelude.{◌≡◌, Bool, Option, None, Some, ℕ, ◌≤◌, ◌<◌, get_or}
use Rattle.std.proofs.Common.{sym, ap, ap₂, ◌∙◌, ⊎_elim, arith}
use Rattle.std.proofs.Math.Bool.{true, false}
use Rattle.std.proofs.lemmas.Option.{none-some, same_Some}
use Rattle.sets.specs.EveryLaws as every
use Rattle.sets.specs.Laws.{has_empty}
use Rattle.sets.specs.Set.{has}
use Rattle.sets.specs.Truth.{same, less, select}
use Rattle.sets.specs.TruthLaws.{Is, on, off, is, select_on, select_off, check_on, check_off, check-zero}
use Rattle.sets.specs.TruthLaws.{less_on, less_mk, and_first, and_second, and_mk}
use Rattle.global_data.specs.declared.GlobalData.{GlobalData}
use Rattle.global_data.specs.GlobalData.{value_in, Entry, entry_with, entry_of, nothing_of, one_of}
use Rattle.global_data.specs.GlobalData.{fill_of, no_data}
use Rattle.global_data.proofs.Laws.{entry_present, entry_absent, not_both, value_present, absent_or, entry_nothing}
use Rattle.global_data.proofs.Laws.{entry_one, or_entry_absent, or_entry_value, entry_fill, fill_from_ind}
use Rattle.global_data.specs.WordLaws.{plain_word, value_word}
use Rattle.process.specs.declared.Process.{Process}
use Rattle.process.specs.Steps.{no_process, idle_of, has_decided, takes_part, keeps, peers_of, filled_of, decides_of}
use Rattle.process.specs.Steps.{open_round_of, start_of, receive_of, advance_of, decide_of, close_of, adopt_of, send_of}
use Rattle.process.specs.Steps.{suspect_of}
use Rattle.process.specs.Laws.{close_on, close_off}
use Rattle.bench.specs.declared.Bench.{Bench}
use Rattle.bench.specs.declared.Message.TheVariants.{Estimate, Decision}
use Rattle.bench.specs.declared.Event.{Event}
use Rattle.bench.specs.declared.Event.TheVariants.{Start, Send, Arrive, Close, Crash, Suspect}
use Rattle.bench.specs.State.{process_at, sent_at, with_process, with_sent, with_transit, with_crashed, opened_of}
use Rattle.bench.specs.Sound.{sound_of}
use Rattle.bench.proofs.SoundLaws.{every_on, every_mk, each_set, each-replicate}
use Rattle.bench.proofs.RecordLaws.{InRange}
use Rattle.bench.specs.Effect.{opens_round, rows_at, sends, arrives, closes_as, effect}
use Rattle.bench.specs.OldRules.{old_entry_of}
use Rattle.bench.specs.Carry.{plain_data, plain_process, plain_bench, carry_refusal, carry_of, plain_start}

-- ---- 2, 16, or 0
module _ (s : Bench) where
  pub carry_damaged : sound_of s ≡ false → carry_refusal s ≡ 2
  unfolding carry_refusal
  carry_damaged d = check_off _ _ _ d

  pub carry_large : sound_of s ≡ true → plain_bench s ≡ false → carry_refusal s ≡ 16
  unfolding carry_refusal
  carry_large h p = check_on _ _ _ h ∙ check_off _ _ _ p

  pub carry_plain : sound_of s ≡ true → plain_bench s ≡ true → carry_refusal s ≡ 0
  unfolding carry_refusal
  carry_plain h p = check_on _ _ _ h ∙ check_on _ _ _ p

-- ---- no present entry above 65,535
abbrev pub Plain : GlobalData → Type 0
Plain g = (k v : ℕ) → k < 16 → entry_of g k ≡ Some (value_in v) → v < 65536

pub plain_on : (g : GlobalData) → plain_data g ≡ true → Plain g
unfolding plain_data
plain_on g e k v h f =
    let p = value_present g k _ f in
    let w = value_word _ v (same_Some _ _ (sym (entry_present g k p) ∙ f)) in
    rw w at (less_on _ 65536 (sym (select_on _ _ _ p) ∙ every.every_on 16 _ e k h))

pub plain_mk : (g : GlobalData) → Plain g → plain_data g ≡ true
unfolding plain_data
plain_mk g p = every.every_mk 16 _ (λ k h. go k h (is (has g.present k)))
  where
    go : (k : ℕ) → k < 16 → Is (has g.present k)
        → select (has g.present k) (less (get_or g.values k 0) 65536) true ≡ true
    go k h (on e) = select_on _ _ _ e ∙ less_mk _ 65536 (p k _ h (entry_present g k e))
    go k h (off e) = select_off _ _ _ e

plain_none : (g : GlobalData) → ((k : ℕ) → entry_of g k ≡ None) → Plain g
plain_none g a k v h f = absurd (not_both (entry_of g k) _ (a k) f)

plain_nothing : Plain nothing_of
plain_nothing = plain_none nothing_of entry_nothing

plain_outside : Plain no_data
plain_outside = plain_none no_data (λ k. entry_absent no_data k (has_empty k))

plain_one : (a v : ℕ) → a < 16 → v < 65536 → Plain (one_of a v)
plain_one a v l h k w r f = go (is (same k a))
  where
    go : Is (same k a) → w < 65536
    go (on e) =
        let q = value_word v w (same_Some _ _ (sym (select_on _ _ _ e) ∙ sym (entry_one a v k l) ∙ f)) in
        omega (arith, q)
    go (off e) =
        absurd (not_both (entry_of (one_of a v) k) _ (entry_one a v k l ∙ select_off _ _ _ e) f)

plain_fill : (g row : GlobalData) → Plain g → Plain row → Plain (fill_of g row)
plain_fill g row p q k v h f =
    ⊎_elim (λ a. q k v h (sym (or_entry_absent _ _ a) ∙ sym (entry_fill g row k h) ∙ f))
    (λ (w, a).
    let e = sym (or_entry_value _ (entry_of row k) _ a) ∙ sym (entry_fill g row k h) ∙ f in
    p k v h (a ∙ e))
    (absent_or g k)

plain_filled : (a : ℕ) (rows : ℕ → GlobalData) (p : Process) → Plain p.estimate → ((y : ℕ) → Plain (rows y))
    → Plain (filled_of a rows p)
unfolding filled_of
plain_filled a rows p h r =
    fill_from_ind (peers_of a p) rows p.estimate (λ q g. Plain g) h (λ q w e. plain_fill _ (rows q) w (r q))
    (λ q w e. w) 16

-- ---- the estimate after each step of a process
module _ (p : Process) where
  plain_close : (n t a : ℕ) (rows : ℕ → GlobalData) → Plain p.estimate → ((y : ℕ) → Plain (rows y))
      → Plain (close_of n t a rows p).estimate
  unfolding decide_of advance_of open_round_of
  plain_close n t a rows h r = go (is (decides_of n t a rows p))
    where
      go : Is (decides_of n t a rows p) → Plain (close_of n t a rows p).estimate
      go (on e) = rw (close_on n t a rows p e) (plain_filled a rows p h r)
      go (off e) = rw (close_off n t a rows p e) (plain_filled a rows p h r)

  plain_either : (b : Bool) (q : Process) → Plain q.estimate → Plain p.estimate → Plain (select b q p).estimate
  unfolding select
  plain_either true q w h = w
  plain_either false q w h = h

  plain_receive : (y r : ℕ) → Plain p.estimate → Plain (receive_of y r p).estimate
  unfolding receive_of
  plain_receive y r h = plain_either (keeps p y r) _ h h

  plain_adopt : (n a k : ℕ) (g : GlobalData) → Plain g → Plain p.estimate → Plain (adopt_of n a k g p).estimate
  unfolding adopt_of decide_of
  plain_adopt n a k g w h = plain_either (takes_part p) _ w h

-- ---- a bench
pub record PlainBench (s : Bench) : Type 0 where
  pub estimate : (a : ℕ) → Plain (get_or s.processes a no_process).estimate
  pub sent : (i : ℕ) → Plain (get_or s.sent i no_data)

pub bench_on : (s : Bench) → plain_bench s ≡ true → PlainBench s
unfolding plain_bench plain_process
bench_on s e =
    record {
      estimate =
          λ a. plain_on _
          (every_on plain_process no_process s.processes (plain_mk no_data plain_outside) (and_first _ _ e) a);
      sent = λ i. plain_on _ (every_on plain_data no_data s.sent (plain_mk no_data plain_outside)
          (and_second _ _ e) i);
    }

pub bench_mk : (s : Bench) → PlainBench s → plain_bench s ≡ true
unfolding plain_bench plain_process
bench_mk s p =
    and_mk _ _ (every_mk plain_process no_process s.processes (λ a. plain_mk _ (p.estimate a)))
    (every_mk plain_data no_data s.sent (λ i. plain_mk _ (p.sent i)))

pub plain_opened : (n t : ℕ) → PlainBench (opened_of n t)
unfolding opened_of idle_of
plain_opened n t =
    record {
      estimate =
          each-replicate (λ (p : Process). Plain p.estimate) no_process 16 idle_of plain_outside plain_nothing;
      sent = each-replicate Plain no_data 256 nothing_of plain_outside plain_nothing;
    }

module _ (s : Bench) (b : PlainBench s) where
  plain_at_lem : (a : ℕ) → Plain (process_at s a).estimate
  unfolding process_at
  plain_at_lem a = b.estimate a

  plain_rows : (r y : ℕ) → Plain (rows_at s r y)
  unfolding rows_at sent_at
  plain_rows r y = b.sent _

  with_process_lem : (a : ℕ) (p : Process) → Plain p.estimate → PlainBench (with_process s a p)
  unfolding with_process
  with_process_lem a p h =
      record {
        estimate = each_set (λ (q : Process). Plain q.estimate) no_process s.processes a p b.estimate h;
        sent = b.sent;
      }

  with_sent_lem : (a r : ℕ) (g : GlobalData) → Plain g → PlainBench (with_sent s a r g)
  unfolding with_sent
  with_sent_lem a r g h = record { estimate = b.estimate; sent = each_set Plain no_data s.sent _ g b.sent h }

  with_transit_lem : (a r m : ℕ) → PlainBench (with_transit s a r m)
  unfolding with_transit
  with_transit_lem a r m = record { estimate = b.estimate; sent = b.sent }

  with_crashed_lem : (a : ℕ) → PlainBench (with_crashed s a)
  unfolding with_crashed
  with_crashed_lem a = record { estimate = b.estimate; sent = b.sent }

plain_opens : (s : Bench) → PlainBench s → (a : ℕ) (p : Process) → Plain p.estimate → PlainBench (opens_round s a p)
unfolding opens_round
plain_opens s b a p h = with_sent_lem _ (with_process_lem s b a p h) a p.round p.estimate h

plain_closes : (s : Bench) → PlainBench s → (a : ℕ) (p : Process) → Plain p.estimate → PlainBench (closes_as s a p)
unfolding closes_as select
plain_closes s b a p h = go (has_decided p)
  where
    go : (d : Bool) → PlainBench (select d (with_process s a p) (opens_round s a p))
    go true = with_process_lem s b a p h
    go false = plain_opens s b a p h

-- every event in range keeps it so, if it is no start with a larger value
pub plain_effect : (s : Bench) → s.n ≤ 16 → PlainBench s → (e : Event) → InRange s.n s.t e → plain_start e ≡ true
    → PlainBench (effect e s)
unfolding effect InRange plain_start start_of open_round_of send_of suspect_of sends arrives
plain_effect s l b (Start a v) r f = plain_opens s b a _ (plain_one a v (omega arith) (less_on v 65536 f))
plain_effect s l b (Send a y) r f = with_transit_lem _ (with_process_lem s b a _ (plain_at_lem s b a)) a _ _
plain_effect s l b (Arrive a y (Estimate q)) r f =
    with_transit_lem _ (with_process_lem s b y _ (plain_receive _ a q (plain_at_lem s b y))) a q _
plain_effect s l b (Arrive a y Decision) r f =
    with_transit_lem _ (with_process_lem s b y _ (plain_adopt _ _ y a _ (plain_at_lem s b a) (plain_at_lem s b y))) a 0 _
plain_effect s l b (Close a) r f =
    plain_closes s b a _ (plain_close _ _ _ a _ (plain_at_lem s b a) (λ y. plain_rows s b _ y))
plain_effect s l b (Crash a) r f = with_crashed_lem s b a
plain_effect s l b (Suspect a y) r f = with_process_lem s b a _ (plain_at_lem s b a)

-- ---- what a carried bench holds: of each present entry the number of before as portions, and no diet portions
pub carried_entry_lem : (g : GlobalData) → plain_data g ≡ true → (k v : ℕ) → k < 16 → old_entry_of g k ≡ Some v
    → entry_of g k ≡ entry_with v 0
unfolding old_entry_of
carried_entry_lem g p k v h f = go (is (has g.present k))
  where
    go : Is (has g.present k) → entry_of g k ≡ entry_with v 0
    go (on e) =
        let q : get_or g.values k 0 ≡ v = same_Some _ _ (sym (select_on _ _ _ e) ∙ f) in
        let r = entry_present g k e ∙ ap (λ w. Some (value_in w)) q in
        let w = plain_word v (plain_on g p k v h r) in
        r ∙ ap₂ entry_with w.0 w.1
    go (off e) = absurd (none-some v (sym (select_off _ _ _ e) ∙ f))

-- what an entry of before becomes
unfoldable pub carried_entry : Option ℕ → Entry
carried_entry None = None
carried_entry (Some v) = entry_with v 0

carried_as : (g : GlobalData) → plain_data g ≡ true → (k : ℕ) → k < 16 → entry_of g k ≡ carried_entry (old_entry_of g k)
unfolding carried_entry old_entry_of
carried_as g p k h = go (is (has g.present k))
  where
    go : Is (has g.present k)
        → entry_of g k ≡ carried_entry (select (has g.present k) (Some (get_or g.values k 0)) None)
    go (on e) = carried_entry_lem g p k _ h (select_on _ _ _ e) ∙ ap carried_entry (sym (select_on _ _ _ e))
    go (off e) = entry_absent g k e ∙ ap carried_entry (sym (select_off _ _ _ e))

-- ---- an accepted carrying: every entry of every estimate and of every row of the bench that it gives is absent as
-- before, or has the number of before as portions and no diet portions
pub record CarriedAs (s s' : Bench) : Type 0 where
  pub estimate : (a k : ℕ) → k < 16
      → entry_of (get_or s'.processes a no_process).estimate k
      ≡ carried_entry (old_entry_of (get_or s.processes a no_process).estimate k)
  pub sent : (i k : ℕ) → k < 16
      → entry_of (get_or s'.sent i no_data) k ≡ carried_entry (old_entry_of (get_or s.sent i no_data) k)

pub carried_bench : (s : Bench) → carry_refusal s ≡ 0 → CarriedAs s (carry_of s).bench
unfolding carry_refusal carry_of
carried_bench s z =
    let c = check-zero (sound_of s) 2 _ (omega arith) z in
    let B = bench_on s (check-zero (plain_bench s) 16 0 (omega arith) c.1).0 in
    record {
      estimate = λ a. carried_as _ (plain_mk _ (B.estimate a));
      sent = λ i. carried_as _ (plain_mk _ (B.sent i));
    }
