-- The calls of a list replay its history: every call leaves the bench to which the protocol steps
-- take the opened one over the history so far, and gives what the rules give there. By induction on the calls, and
-- what every accepted record keeps, in a run by induction on its budget.
use Rattle.std.specs.Prelude.{◌≡◌, true, ◌≢◌, take, drop}
use Rattle.std.proofs.Math.Path.{refl, sym, ap}
use Rattle.std.proofs.Common.{◌∙◌}
use mathlib.Core.List.{List, [], ◌∷◌, ◌++◌, append_assoc, append-nil}
use Rattle.std.proofs.Math.Logic.{⊎_elim}
use Prim.Native.Nat.{ℕ, zero, suc}
use Rattle.sets.specs.TruthLaws.{eq-or}
use Rattle.bench.specs.declared.Bench.{Bench}
use Rattle.bench.specs.declared.Event.{Event}
use Rattle.bench.specs.State.{opened_of}
use Rattle.bench.specs.Sound.{sound_of}
use Rattle.bench.specs.Record.{Form}
use Rattle.bench.proofs.RecordLaws.{InRange}
use Rattle.bench.specs.Refuse.{refuses, refusal_by}
use Rattle.bench.specs.Effect.{effect}
use Rattle.bench.specs.Calls.{accepted_one, after_events, accepted_in}
use Rattle.bench.proofs.OldRulesLaws.{taken}
use Rattle.bench.proofs.RunLaws.{none_accepted, one_accepted, in_refused, in_accepted}
use Rattle.agreement.specs.Statement.History.{Call, step, run, after_call, given_by, after_calls, answers}
use Rattle.agreement.specs.Statement.History.{after_history, accepted_by, add_call, history, ruled}
use Rattle.agreement.specs.Histories.Append.{over_append, over_sizes}

-- ---- one more record at the end of a history
pub reached_next : (n t : ℕ) (h : List Event) (e : Event)
    → after_history n t (h ++ (e ∷ [])) ≡ effect e (after_history n t h)
unfolding after_history after_events
reached_next n t h e = over_append (opened_of n t) h (e ∷ [])

pub reached_sizes : (n t : ℕ) (h : List Event) → ((after_history n t h).n ≡ n) × ((after_history n t h).t ≡ t)
unfolding after_history opened_of
reached_sizes n t h = over_sizes (opened_of n t) h

-- what holds of n and t holds of the sizes that the bench has, and the other way
module _ (n t : ℕ) (h : List Event) (P : ℕ → ℕ → Type 0) where
  pub sizes_to : P n t → P (after_history n t h).n (after_history n t h).t
  sizes_to p = rw ((reached_sizes n t h).0, (reached_sizes n t h).1) p

  pub sizes_from : P (after_history n t h).n (after_history n t h).t → P n t
  sizes_from p = rw ((reached_sizes n t h).0, (reached_sizes n t h).1) at p

-- e is accepted after h
pub record Next (n t : ℕ) (h : List Event) (e : Event) : Type 0 where
  pub range : InRange n t e
  pub passes : refuses e (after_history n t h) ≡ 0
  pub sound : sound_of (after_history n t h) ≡ true
  pub sound_after : sound_of (after_history n t (h ++ (e ∷ []))) ≡ true

-- the event of a record that is accepted after h
next : (f : Form) (n t : ℕ) (h : List Event) (bytes : List ℕ) (z : refusal_by f (after_history n t h) bytes ≡ 0)
    → Next n t h (taken f (after_history n t h) bytes z).event
next f n t h bytes z =
    let A = taken f (after_history n t h) bytes z in
    record {
      range = sizes_from n t h (λ m u. InRange m u A.event) A.range;
      passes = A.passes;
      sound = A.sound;
      sound_after = rw (reached_next n t h A.event) A.sound_after;
    }

-- ---- induction along a history: what the empty one has and every accepted record keeps
module _ (n t : ℕ) (P : List Event → Type 0)
    (keeps : (h : List Event) (e : Event) → Next n t h e → P h → P (h ++ (e ∷ []))) where
  along_record : (f : Form) (h : List Event) (bytes : List ℕ) → P h
      → P (h ++ accepted_one f (after_history n t h) bytes)
  along_record f h bytes p = ⊎_elim yes no (eq-or (refusal_by f s bytes) 0)
    where
      s : Bench
      s = after_history n t h

      yes : refusal_by f s bytes ≡ 0 → P (h ++ accepted_one f s bytes)
      yes z = rw (one_accepted f s bytes z) (keeps h _ (next f n t h bytes z) p)

      no : refusal_by f s bytes ≢ 0 → P (h ++ accepted_one f s bytes)
      no z = rw (none_accepted f s bytes z, append-nil h) p

  along_run : (f : Form) (budget : ℕ) (h : List Event) (l : List ℕ) → P h
      → P (h ++ accepted_in f budget l (after_history n t h))
  unfolding accepted_in
  along_run f zero h l p = rw (append-nil h) p
  along_run f (suc budget) h l p =
      ⊎_elim (yes (λ g q. along_run f budget g (drop 8 l) q)) no (eq-or (refusal_by f s (take 8 l)) 0)
    where
      s : Bench
      s = after_history n t h

      yes : ((g : List Event) → P g → P (g ++ accepted_in f budget (drop 8 l) (after_history n t g)))
          → refusal_by f s (take 8 l) ≡ 0 → P (h ++ accepted_in f (suc budget) l s)
      yes ih z =
          let e = (taken f s (take 8 l) z).event in
          rw (
            in_accepted f s l budget z,
            ← append_assoc h (e ∷ []) (accepted_in f budget (drop 8 l) (effect e s)),
            ← reached_next n t h e,
          )
          (ih (h ++ (e ∷ [])) (keeps h e (next f n t h (take 8 l) z) p))

      no : refusal_by f s (take 8 l) ≢ 0 → P (h ++ accepted_in f (suc budget) l s)
      no z = rw (in_refused f s l (suc budget) z, append-nil h) p

  along_call : (h : List Event) (c : Call) → P h → P (add_call n t h c)
  unfolding add_call accepted_by
  along_call h (step f bytes tally) p = along_record f h bytes p
  along_call h (run f l budget) p = along_run f budget h l p

  pub along : (h : List Event) (calls : List Call) → P h → P (history n t h calls)
  unfolding history
  along h [] p = p
  along h (c ∷ calls) p = along (add_call n t h c) calls (along_call h c p)

-- ---- a call, and a list of calls
-- what a call leaves is where the steps take the bench over what it accepts
pub left_by : (c : Call) (s : Bench) → after_call c s ≡ after_events s (accepted_by c s)
unfolding after_call accepted_by
left_by (step f bytes tally) s = refl
left_by (run f l budget) s = refl

module _ (n t : ℕ) where
  pub bench_call : (h : List Event) (c : Call) → after_call c (after_history n t h) ≡ after_history n t (add_call n t h c)
  unfolding add_call after_history
  bench_call h c = left_by c _ ∙ sym (over_append (opened_of n t) h _)

  pub record Replayed (h : List Event) (calls : List Call) : Type 0 where
    pub bench : after_calls (after_history n t h) calls ≡ after_history n t (history n t h calls)
    pub given : answers (after_history n t h) calls ≡ ruled n t h calls

  pub replay : (h : List Event) (calls : List Call) → Replayed h calls
  unfolding after_calls answers history ruled
  replay h [] = record { bench = refl; given = refl }
  replay h (c ∷ calls) =
      let R = replay (add_call n t h c) calls in
      record {
        bench = ap (λ (s : Bench). after_calls s calls) (bench_call h c) ∙ R.bench;
        given =
            ap (λ x. given_by c (after_history n t h) ∷ x)
            (ap (λ (s : Bench). answers s calls) (bench_call h c) ∙ R.given);
      }
