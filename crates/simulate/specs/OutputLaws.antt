-- Laws of the output: what is read as an opening record and then as records, and written line by line, is the whole
-- output of what the reader had. Readers and writers show their bytes where they know them.
use Rattle.std.specs.Prelude.{◌≡◌, List, [], ◌++◌, ℕ, ◌^◌, ◌≤◌, ◌<◌, Option, None, Some, Ok, Err, IfSome, length, take, drop}
use Rattle.std.specs.Io.KnownBytes.{Consumes, Appends, IsAtEnd}
use Rattle.std.proofs.Common.{ap, ◌∙◌, ⊎_elim, arith, append-nil, length-append}
use Rattle.std.proofs.KnownBytes.{Appends-trans}
use Rattle.std.proofs.Math.Seq.{drop_at, take_all}
use Rattle.std.proofs.lemmas.List.{take-append-le, drop_all}
use Rattle.sets.specs.TruthLaws.{le-or}
use Rattle.bench.specs.declared.Bench.{Bench}
use Rattle.refusal.specs.declared.Refusal.{Refusal}
use Rattle.refusal.specs.Numbers.{refusal_number}
use Rattle.text.specs.Text.{line_of, processes_text}
use Rattle.simulate.specs.Output.{opening_of, written_after, output_of}
use Rattle.simulate.specs.LinesLaws.{Answered}

-- the first 8 bytes, or all, where there are fewer
module _ (first rest : List ℕ) (h : length first ≤ 8) (end : length first < 8 → rest ≡ []) where
  front : take 8 (first ++ rest) ≡ first
  front =
      ⊎_elim (λ b. take-append-le 8 first rest b ∙ take_all 8 first h)
      (λ b. rw (end b, append-nil first) (take_all 8 first h)) (le-or 8 (length first))

  behind : drop 8 (first ++ rest) ≡ rest
  behind =
      ⊎_elim (λ b. drop_at first rest 8 (omega arith))
      (λ b. rw (end b, append-nil first) (drop_all 8 first h)) (le-or 8 (length first))

-- all that is left where a reader is at its end
given_all : (after : Option (List ℕ)) (rest bytes : List ℕ) → Consumes (Some rest) after bytes
    → (length bytes < 2 ^ 66 → IsAtEnd after) → length rest < 2 ^ 66 → rest ≡ bytes
given_all None rest bytes c end h = absurd c
given_all (Some left) rest bytes c end h =
    let e = end (omega (arith, ap length c, length-append bytes left)) in
    c ∙ ap (λ (l : List ℕ). bytes ++ l) e ∙ append-nil bytes

-- what the opening record was read from
module _ (first : List ℕ) (h : length first ≤ 8) where
  pub output_refused : (before mid held written : Option (List ℕ)) (r : Refusal) → Consumes before mid first
      → (length first < 8 → IsAtEnd mid) → opening_of first ≡ Err r
      → Appends held written (line_of 0 (refusal_number r))
      → IfSome before (λ bytes. length bytes < 2 ^ 66 → Appends held written (output_of bytes))
  unfolding output_of written_after
  output_refused None mid held written r read end a w = tt
  output_refused (Some xs) None held written r read end a w = absurd read
  output_refused (Some xs) (Some rest) held written r read end a w = λ few. rw (read, front first rest h end, a) w

  pub output_opened : (before mid after held lined written : Option (List ℕ)) (b s : Bench) → Consumes before mid first
      → (length first < 8 → IsAtEnd mid) → opening_of first ≡ Ok b
      → Answered b s mid after held lined → Appends lined written (processes_text s)
      → IfSome before (λ bytes. length bytes < 2 ^ 66 → Appends held written (output_of bytes))
  unfolding output_of written_after
  output_opened None mid after held lined written b s read end a d w = tt
  output_opened (Some xs) None after held lined written b s read end a d w = absurd read
  output_opened (Some xs) (Some rest) after held lined written b s read end a d w = λ few.
      let e : rest ≡ d.bytes =
      given_all after rest d.bytes d.read d.all (omega (arith, ap length read, length-append first rest)) in
      rw (read, front first rest h end, behind first rest h end, a, e, ← d.state)
      (Appends-trans held lined written _ _ d.lines w)
