-- Old calls whose accepted starts have values of at most 65,535 do the same as those of now with their records
-- rewritten, and give the same: they accept the same events. By induction on the calls.
use Rattle.std.specs.Prelude.{◌≡◌, true, ℕ, ◌-◌, ◌*◌, length, drop}
use Rattle.std.proofs.Math.Path.{refl, sym, ap, ap₂}
use Rattle.std.proofs.Common.{◌∙◌}
use mathlib.Core.List.{List, [], ◌∷◌, map}
use Rattle.sets.specs.Lists.{every_in}
use Rattle.sets.specs.TruthLaws.{and_first, and_second}
use Rattle.bench.specs.declared.Bench.{Bench}
use Rattle.bench.specs.declared.Event.{Event}
use Rattle.bench.specs.Record.{v1, v2}
use Rattle.bench.specs.Refuse.{refusal_by}
use Rattle.bench.specs.Calls.{answer_of, accepted_one, after_events, closing_from, accepted_in, tally_by, cause_of}
use Rattle.bench.specs.Carry.{plain_start, rewritten_record, rewritten_schedule}
use Rattle.bench.specs.EveryInLaws.{bytes_every}
use Rattle.bench.proofs.RewriteLaws.{Bytes, every_split, bytes_rest, rewritten-refuses, rewritten_one, rewritten_tally}
use Rattle.bench.proofs.RewriteLaws.{drop_many, rewritten-run, rewritten_cause}
use Rattle.agreement.specs.Statement.History.{Call, step, run, stepped, ran, after_call, given_by}
use Rattle.agreement.specs.Statement.History.{after_calls, answers, after_history, accepted_by, add_call, history}
use Rattle.agreement.specs.Statement.Carrying.{as_old, rewritten, rewritten_rest, takes_bytes}
use Rattle.agreement.specs.Histories.Replay.{left_by, bench_call}

-- ---- a call
record Alike (c : Call) (s : Bench) : Type 0 where
  accepted : accepted_by (as_old c) s ≡ accepted_by (rewritten c) s
  given : rewritten_rest (given_by (as_old c) s) ≡ given_by (rewritten c) s

module _ (s : Bench) (l : List ℕ) (b : Bytes l) (budget : ℕ)
    (q : every_in plain_start (accepted_in v1 budget l s) ≡ true) where
  -- what a run of the events h gives, of the bytes l and of those rewritten
  run-given : (h : List Event)
      → ran (length h) (cause_of v1 (budget - length h) (drop (8 * length h) l) (after_events s h)) (closing_from s h)
      (rewritten_schedule (drop (8 * length h) l))
      ≡ ran (length h)
      (cause_of v2 (budget - length h) (drop (8 * length h) (rewritten_schedule l)) (after_events s h)) (closing_from s h)
      (drop (8 * length h) (rewritten_schedule l))
  run-given h =
      ap (λ x. ran (length h) x (closing_from s h) (rewritten_schedule (drop (8 * length h) l)))
      (rewritten_cause (budget - length h) (drop (8 * length h) l) (after_events s h) (bytes_rest (8 * length h) l b))
      ∙ ap (λ r. ran (length h) (cause_of v2 (budget - length h) r (after_events s h)) (closing_from s h) r)
      (sym (drop_many (length h) l))

call_alike : (c : Call) (s : Bench) → takes_bytes c ≡ true → every_in plain_start (accepted_by (as_old c) s) ≡ true
    → Alike c s
unfolding takes_bytes as_old rewritten rewritten_rest accepted_by given_by
call_alike (step f l tally) s z q =
    let b : Bytes l = sym (bytes_every l) ∙ z in
    let m = rewritten_record l in
    let h = rewritten_one s l b q in
    record {
      accepted = h;
      given =
          ap (λ x. stepped (answer_of x) (tally_by v1 s l tally) (closing_from s (accepted_one v1 s l)))
          (rewritten-refuses s l b)
          ∙ ap₂ (λ x y. stepped (answer_of (refusal_by v2 s m)) x (closing_from s y)) (rewritten_tally s l b q tally) h;
    }
call_alike (run f l budget) s z q =
    let b : Bytes l = sym (bytes_every l) ∙ z in
    let h = rewritten-run budget l s b q in
    let m = rewritten_schedule l in
    record {
      accepted = h;
      given =
          run-given s l b budget q (accepted_in v1 budget l s)
          ∙ ap (λ (g : List Event).
          ran (length g) (cause_of v2 (budget - length g) (drop (8 * length g) m) (after_events s g)) (closing_from s g)
          (drop (8 * length g) m)) h;
    }

bench_alike : (c : Call) (s : Bench) → Alike c s → after_call (as_old c) s ≡ after_call (rewritten c) s
bench_alike c s A = left_by (as_old c) s ∙ ap (after_events s) A.accepted ∙ sym (left_by (rewritten c) s)

-- ---- a list of calls
pub record AlikeFrom (s : Bench) (calls : List Call) : Type 0 where
  pub bench : after_calls s (map as_old calls) ≡ after_calls s (map rewritten calls)
  pub given : map rewritten_rest (answers s (map as_old calls)) ≡ answers s (map rewritten calls)

module _ (n t : ℕ) where
  -- what the calls so far added stands in the whole history
  plain_before : (h : List Event) (calls : List Call) → every_in plain_start (history n t h calls) ≡ true
      → every_in plain_start h ≡ true
  unfolding history add_call
  plain_before h [] p = p
  plain_before h (c ∷ calls) p = (every_split plain_start h _ (plain_before (add_call n t h c) calls p)).0

  pub calls_alike : (h : List Event) (calls : List Call) → every_in takes_bytes calls ≡ true
      → every_in plain_start (history n t h (map as_old calls)) ≡ true → AlikeFrom (after_history n t h) calls
  unfolding after_calls answers history add_call every_in
  calls_alike h [] b p = record { bench = refl; given = refl }
  calls_alike h (c ∷ calls) b p =
      let s = after_history n t h in
      let g = add_call n t h (as_old c) in
      let A = call_alike c s (and_first _ _ b)
      (every_split plain_start h _ (plain_before g (map as_old calls) p)).1 in
      let R = calls_alike g calls (and_second _ _ b) p in
      let d = bench_call n t h (as_old c) in
      let e = sym d ∙ bench_alike c s A in
      record {
        bench =
            ap (λ (u : Bench). after_calls u (map as_old calls)) d ∙ R.bench
            ∙ ap (λ (u : Bench). after_calls u (map rewritten calls)) e;
        given =
            ap₂ ◌∷◌ A.given
            (ap (λ (u : Bench). map rewritten_rest (answers u (map as_old calls))) d ∙ R.given
            ∙ ap (λ (u : Bench). answers u (map rewritten calls)) e);
      }
