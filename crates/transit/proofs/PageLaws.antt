-- A loop over a page: its k turns write `joined k f`.
use Rattle.std.proofs.Common.{◌≡◌, refl, List, [], ℕ, ◌+◌, ◌≤◌, ◌<◌, ◌∙◌, arith}
use Rattle.sets.specs.Lists.{joined}
use Rattle.bench.proofs.TransitLaws.{stores_none, stores_more, stores_room}
use Rattle.transit.specs.declared.Page.{Page}
use Rattle.transit.specs.Pages.{Room, Writes}

pub writes_none : (p : Page) → Writes p [] p
writes_none p = record { same_slice = refl; stored = stores_none p.out.now p.at }

module _ (f : ℕ → List ℕ) where
  pub writes_start : (p : Page) → Writes p (joined 0 f) p
  unfolding joined
  writes_start p = writes_none p

  pub writes_more : (k : ℕ) {p q r : Page} → Writes p (joined k f) q → Writes q (f k) r
      → Writes p (joined (k + 1) f) r
  writes_more k {p} {q} {r} w v =
      record {
        same_slice = v.same_slice ∙ w.same_slice;
        stored = stores_more f p.out.now p.at k q.out.now q.at r.out.now r.at w.stored v.stored;
      }

  pub writes_all : (n k : ℕ) {p q : Page} → n ≤ k → k ≤ n → Writes p (joined k f) q → Writes p (joined n f) q
  writes_all n k h g w = let e : k ≡ n = omega arith in rw e at w

  -- the next one has room where all have
  pub room_more : (n k : ℕ) {p q : Page} → k < n → Room p (joined n f) → Writes p (joined k f) q → Room q (f k)
  room_more n k {p} {q} h room w =
      stores_room f p.out.now p.at n k q.out.now q.at h room w.stored
