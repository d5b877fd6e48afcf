-- `mark` adds the days to the set of their kind: to the other one nothing is added.
use Rattle.std.specs.Prelude.{◌≡◌, refl, ℕ}
use Rattle.std.proofs.Common.{ap, ◌∙◌}
use Rattle.std.specs.Int.Bits.{or_zero_r, and_self, and_zero_r, xor_self, xor_zero_r}
use Rattle.sets.specs.Set.{union_of, difference_of}
use Rattle.calendar.proofs.Marks.mark.Goals.{in-Term, in-Closed}
use Rattle.calendar.proofs.Marks.mark.Goals as goal

none_left : (d : ℕ) → difference_of d d ≡ 0
unfolding difference_of
none_left d = rw (and_self d) (xor_self d)

all_left : (d : ℕ) → difference_of d 0 ≡ d
unfolding difference_of
all_left d = rw (and_zero_r d) (xor_zero_r d)

union_none : (m : ℕ) → union_of m 0 ≡ m
unfolding union_of
union_none m = or_zero_r m

pub returns : goal.returns
returns c =
    let s = c.args.self in
    let d = c.args.days in
    elim c.match-kind.branch [
      | in-Term w ↦
          let p : c.union-self.result ≡ union_of s.now.term d = c.union-self.ensures ∙ ap (union_of s.now.term) w.term-is in
          let n : c.difference.result ≡ 0 = c.difference.ensures ∙ ap (difference_of d) w.term-is ∙ none_left d in
          let q : c.union-self-2.result ≡ s.now.closed =
          c.union-self-2.ensures ∙ ap (union_of s.now.closed) n ∙ union_none s.now.closed in
          rw (w.in-Term.is, p, q) refl
      | in-Closed w ↦
          let z = w.term-is ∙ w.empty-term.ensures in
          let p : c.union-self.result ≡ s.now.term =
          c.union-self.ensures ∙ ap (union_of s.now.term) z ∙ union_none s.now.term in
          let n : c.difference.result ≡ d = c.difference.ensures ∙ ap (difference_of d) z ∙ all_left d in
          let q : c.union-self-2.result ≡ union_of s.now.closed d =
          c.union-self-2.ensures ∙ ap (union_of s.now.closed) n in
          rw (w.in-Closed.is, p, q) refl
    ]
