-- The list in transit is what request C-13 says: strictly rising by round, sender and receiver, and naming just the
-- messages in transit. By `lists_joined`, for the receivers, the senders and the rounds. What follows: there is one
-- such list alone, so the same messages are shown as the same bytes, and where two lists differ, a message does.
use Rattle.std.specs.Prelude.{◌≡◌, ◌↔◌, ◌⊎◌, true, ℕ, ◌+◌, ◌-◌, ◌/◌, ◌≤◌, ◌<◌, length, Ok}
use Rattle.std.proofs.Math.Path.{refl, subst}
use Rattle.std.proofs.Common.{sym, ap, ◌∙◌}
use mathlib.Core.List.{List, Nodup, Memᴰ as In}
use mathlib.Mathlib.Data.List.Nodup.{Pairwise-Nodup}
use native.Mathlib.Omega.{arith}
use Rattle.sets.specs.Lists.{joined}
use Rattle.sets.specs.Set.{has}
use Rattle.sets.specs.TruthLaws.{one_low, one_high, one_mk}
use Rattle.bench.specs.declared.Bench.{Bench}
use Rattle.bench.specs.declared.Message.{Message}
use Rattle.bench.specs.declared.Event.TheVariants.{Arrive}
use Rattle.bench.specs.State.{transit_at}
use Rattle.bench.specs.Sound.{sound_of}
use Rattle.bench.specs.Refuse.{number_of, passes7}
use Rattle.bench.specs.TransitList.{message_bytes, transit_bytes, list_refusal, list_of, listed_in}
use Rattle.bench.specs.CallLaws.{list_listed}
use Rattle.bench.specs.TransitOrder.{ListedMessage, listed, by_round, by_sender, by_receiver}
use Rattle.bench.specs.TransitOrder.{InTransit, Lists, Extra}
use Rattle.bench.specs.ListedLaws.{before_never, lists_as, lists_differ, lists_same, lists_one, lists_joined}
use Rattle.bench.specs.ListedLaws.{Among, bytes_length, bytes_tell}

-- ---- the list in transit
module _ (s : Bench) where
  -- m is message r of a to b, and in transit; one of those of a; one of round r; one of all
  One : ℕ → ℕ → ℕ → ListedMessage → Type 0
  One r a b m = (m ≡ listed (a + 1) (b + 1) r) × (has (transit_at s a r) b ≡ true)

  abbrev OfSender : ℕ → ℕ → ListedMessage → Type 0
  OfSender r a = Among (One r a) s.n

  abbrev OfRound : ℕ → ListedMessage → Type 0
  OfRound r = Among (OfSender r) s.n

  abbrev OfAll : ListedMessage → Type 0
  OfAll = Among OfRound (s.t + 2)

  of_message : (r a b : ℕ) → Lists (One r a b) (message_bytes (transit_at s a r) r a b)
  unfolding message_bytes One listed
  of_message r a b = lists_one (has (transit_at s a r) b) (listed (a + 1) (b + 1) r)

  of_sender : (r a : ℕ) → Lists (OfSender r a) (joined s.n (message_bytes (transit_at s a r) r a))
  unfolding One listed
  of_sender r a =
      lists_joined (One r a) (message_bytes (transit_at s a r) r a) (of_message r a)
      (λ i j x y h p q. rw (p.0, q.0) (by_receiver refl refl (omega arith))) s.n

  of_round : (r : ℕ) → Lists (OfRound r) (joined s.n (λ a. joined s.n (message_bytes (transit_at s a r) r a)))
  unfolding One listed
  of_round r =
      lists_joined (OfSender r) (λ a. joined s.n (message_bytes (transit_at s a r) r a)) (of_sender r)
      (λ i j x y h p q. rw (p.of.0, q.of.0) (by_sender refl (omega arith))) s.n

  of_all : Lists OfAll (transit_bytes s)
  unfolding transit_bytes One listed
  of_all =
      lists_joined OfRound (λ r. joined s.n (λ a. joined s.n (message_bytes (transit_at s a r) r a))) of_round
      (λ i j x y h p q. rw (p.of.of.0, q.of.of.0) (by_round (omega arith))) (s.t + 2)

  -- in transit by numbers from 0, as the state has them
  in_transit_mk : (a b r : ℕ) → a < s.n → b < s.n → r ≤ s.t + 1 → has (transit_at s a r) b ≡ true
      → InTransit s (listed (a + 1) (b + 1) r)
  unfolding listed
  in_transit_mk a b r ha hb hr e =
      let ea : a + 1 - 1 ≡ a = omega arith in
      let eb : b + 1 - 1 ≡ b = omega arith in
      record {
        from = one_mk s.n (a + 1) (omega arith) (omega arith);
        to = one_mk s.n (b + 1) (omega arith) (omega arith);
        round = hr;
        sent = rw (ea, eb) e;
      }

  named_in : (m : ListedMessage) → OfAll m → InTransit s m
  unfolding One
  named_in m w =
      subst (InTransit s) (sym w.of.of.of.0)
      (in_transit_mk w.of.index w.of.of.index w.index w.of.low w.of.of.low (omega (arith, w.low))
      w.of.of.of.1)

  in_named : (m : ListedMessage) → InTransit s m → OfAll m
  unfolding One listed
  in_named m w =
      let la = one_low s.n m.sender w.from in
      let lb = one_low s.n m.receiver w.to in
      let ea : m.sender ≡ m.sender - 1 + 1 = omega arith in
      let eb : m.receiver ≡ m.receiver - 1 + 1 = omega arith in
      record {
        index = m.round;
        low = omega (arith, w.round);
        of = record {
          index = m.sender - 1;
          low = omega (arith, one_high s.n m.sender w.from);
          of = record {
            index = m.receiver - 1;
            low = omega (arith, one_high s.n m.receiver w.to);
            of = (λ i. record { sender = ea i; receiver = eb i; round = m.round }, w.sent);
          };
        };
      }

  -- the list is strictly rising by round, sender and receiver, and names just the messages in transit
  pub transit_lists : Lists (InTransit s) (transit_bytes s)
  transit_lists = lists_as OfAll (InTransit s) (transit_bytes s) (λ m. (named_in m, in_named m)) of_all

  -- and no other bytes are such a list
  pub transit_only : (bytes : List ℕ) → Lists (InTransit s) bytes → bytes ≡ transit_bytes s
  transit_only bytes w =
      lists_same (InTransit s) (InTransit s) bytes (transit_bytes s) (λ m. (λ u. u, λ u. u)) w transit_lists

  -- nothing stands twice
  pub transit_once : Nodup transit_lists.messages
  transit_once = Pairwise-Nodup before_never transit_lists.rising

  -- the number that the call answers is how many they are
  pub transit_count : (out : List ℕ) → list_refusal s out ≡ 0 → list_of s out ≡ Ok (length transit_lists.messages)
  transit_count out e =
      let w = transit_lists in
      let h : length (transit_bytes s) / 3 ≡ length w.messages =
      omega (arith, ap length w.spelt ∙ bytes_length w.messages) in
      (list_listed s out e).0 ∙ ap Ok h

  -- what is listed is what can arrive: just those pass check 7
  pub transit_arrives : (a b : ℕ) (m : Message) → a < s.n → b < s.n → number_of m ≤ s.t + 1
      → In (listed (a + 1) (b + 1) (number_of m)) transit_lists.messages ↔ (passes7 (Arrive a b m) s ≡ true)
  unfolding passes7 listed
  transit_arrives a b m ha hb hr =
      let x = listed (a + 1) (b + 1) (number_of m) in
      let ea : a + 1 - 1 ≡ a = omega arith in
      let eb : b + 1 - 1 ≡ b = omega arith in (
        λ u. rw (ea, eb) at ((transit_lists.exact x).0 u).sent,
        λ u. (transit_lists.exact x).1 (in_transit_mk a b (number_of m) ha hb hr u),
      )

-- ---- two benches, of any two sizes
module _ (s s' : Bench) where
  -- the same messages in transit are shown as the same bytes
  pub transit_same : ((m : ListedMessage) → InTransit s m ↔ InTransit s' m) → transit_bytes s ≡ transit_bytes s'
  transit_same h = lists_same (InTransit s) (InTransit s') _ _ h (transit_lists s) (transit_lists s')

  -- and the same bytes show the same messages
  pub transit_tells : transit_bytes s ≡ transit_bytes s' → (m : ListedMessage) → InTransit s m ↔ InTransit s' m
  transit_tells e m =
      let v = transit_lists s in
      let w = transit_lists s' in
      let d = bytes_tell v.messages w.messages (sym v.spelt ∙ e ∙ w.spelt) in (
        λ u. (w.exact m).0 (subst (In m) d ((v.exact m).1 u)),
        λ u. (v.exact m).0 (subst (In m) (sym d) ((w.exact m).1 u)),
      )

  -- where the lists differ: of the messages at the first place that differs, read from the top, the lesser one is in
  -- transit on one bench alone
  pub transit_differs : (transit_bytes s ≡ transit_bytes s')
      ⊎ (Extra (InTransit s) (InTransit s') (transit_bytes s) (transit_bytes s')
      ⊎ Extra (InTransit s') (InTransit s) (transit_bytes s') (transit_bytes s))
  transit_differs = lists_differ (InTransit s) (InTransit s') _ _ (transit_lists s) (transit_lists s')

  -- the call answers and writes the same on both, whatever is lent, where both or neither are damaged
  pub list_same : (out : List ℕ) → sound_of s ≡ sound_of s' → ((m : ListedMessage) → InTransit s m ↔ InTransit s' m)
      → (list_of s out ≡ list_of s' out) × (listed_in s out ≡ listed_in s' out)
  unfolding list_of listed_in list_refusal
  list_same out e h = (rw (e, transit_same h), rw (e, transit_same h))
