-- The bench seen as functions of process numbers (from 0), and each accepted record
-- as a relation between two such views: what it leaves and what it changes, place by place.
-- The invariants speak of these alone and never of masks or lists.
use Rattle.std.specs.Prelude.{◌≡◌, ◌≢◌, ◌⊎◌, Bool, true, false, not, ℕ, suc, ◌≤◌, ◌<◌}
use Rattle.sets.specs.Truth.{◌and◌, ◌or◌, same, less, select}
use Rattle.sets.specs.Lists.{count_to}

-- `closed x`: how many estimates x has closed with: 0 before its start, then one more at its start and at each close.
-- So its estimate number l (E(x, l) of the plan) is defined where l < closed x, and x decided at a close
-- where closed x ≡ suc (round x).
-- `row x l k`: estimate number l of x has an entry for k, and `entry x l k` is its value.
pub record View : Type 0 where
  pub round : ℕ → ℕ
  pub closed : ℕ → ℕ
  pub decided : ℕ → Bool
  pub crashed : ℕ → Bool
  pub previous : ℕ → ℕ → Bool
  pub current : ℕ → ℕ → Bool
  pub suspected : ℕ → ℕ → Bool
  pub outbox : ℕ → ℕ → Bool
  -- received x r y: y's estimate of round r (from 1) arrived at x and is kept
  pub received : ℕ → ℕ → ℕ → Bool
  -- transit x r y: x's message r (0: its decision, else the estimate of round r) is on its way to y
  pub transit : ℕ → ℕ → ℕ → Bool
  pub row : ℕ → ℕ → ℕ → Bool
  pub entry : ℕ → ℕ → ℕ → ℕ
  -- the estimate that x holds, its decision once it decided: which entries are present, and their values
  pub estimate : ℕ → ℕ → Bool
  pub value : ℕ → ℕ → ℕ

-- three numbers against three
unfoldable pub same3 : ℕ → ℕ → ℕ → ℕ → ℕ → ℕ → Bool
same3 x y z a b c = same x a and (same y b and same z c)

-- the round's next set at a: itself and those received, within its current set
unfoldable pub next : View → ℕ → ℕ → Bool
next s a y = s.current a y and (same y a or s.received a (s.round a) y)

-- the message that a has to send: its decision, or its estimate of the round
unfoldable pub slot : View → ℕ → ℕ
slot s a = select (s.decided a) 0 (s.round a)

-- nothing of another process than a changes, nor who has crashed
pub record Others (s s' : View) (a : ℕ) : Type 0 where
  pub round : (x : ℕ) → x ≢ a → s'.round x ≡ s.round x
  pub closed : (x : ℕ) → x ≢ a → s'.closed x ≡ s.closed x
  pub decided : (x : ℕ) → x ≢ a → s'.decided x ≡ s.decided x
  pub previous : (x y : ℕ) → x ≢ a → s'.previous x y ≡ s.previous x y
  pub current : (x y : ℕ) → x ≢ a → s'.current x y ≡ s.current x y
  pub suspected : (x y : ℕ) → x ≢ a → s'.suspected x y ≡ s.suspected x y
  pub outbox : (x y : ℕ) → x ≢ a → s'.outbox x y ≡ s.outbox x y
  pub received : (x r y : ℕ) → x ≢ a → s'.received x r y ≡ s.received x r y
  pub row : (x l k : ℕ) → x ≢ a → l < s.closed x → s'.row x l k ≡ s.row x l k
  pub entry : (x l k : ℕ) → x ≢ a → l < s.closed x → s'.entry x l k ≡ s.entry x l k
  pub estimate : (x k : ℕ) → x ≢ a → s'.estimate x k ≡ s.estimate x k
  pub value : (x k : ℕ) → x ≢ a → s'.value x k ≡ s.value x k

-- of a itself: no round opens or closes, and its sets stay, but for what each quiet record says it changes
pub record Calm (s s' : View) (a : ℕ) : Type 0 where
  pub round : s'.round a ≡ s.round a
  pub closed : s'.closed a ≡ s.closed a
  pub previous : (y : ℕ) → s'.previous a y ≡ s.previous a y
  pub current : (y : ℕ) → s'.current a y ≡ s.current a y
  pub row : (l k : ℕ) → l < s.closed a → s'.row a l k ≡ s.row a l k
  pub entry : (l k : ℕ) → l < s.closed a → s'.entry a l k ≡ s.entry a l k

pub record SameDecision (s s' : View) (a : ℕ) : Type 0 where
  pub decided : s'.decided a ≡ s.decided a
  pub estimate : (k : ℕ) → s'.estimate a k ≡ s.estimate a k
  pub value : (k : ℕ) → s'.value a k ≡ s.value a k

-- 1: a starts with the value v
pub record Start (n : ℕ) (s s' : View) (a v : ℕ) : Type 0 where
  pub low : a < n
  pub running : s.crashed a ≡ false
  pub was : s.round a ≡ 0
  pub others : Others s s' a
  pub crashed : (x : ℕ) → s'.crashed x ≡ s.crashed x
  pub transit : (x r y : ℕ) → s'.transit x r y ≡ s.transit x r y
  pub received : (r y : ℕ) → s'.received a r y ≡ s.received a r y
  pub suspected : (y : ℕ) → s'.suspected a y ≡ s.suspected a y
  pub decided : s'.decided a ≡ s.decided a
  pub round : s'.round a ≡ 1
  pub closed : s'.closed a ≡ suc (s.closed a)
  pub previous : (y : ℕ) → s'.previous a y ≡ less y n
  pub current : (y : ℕ) → s'.current a y ≡ (less y n and not (s.suspected a y))
  pub outbox : (y : ℕ) → s'.outbox a y ≡ (s'.current a y and not (same y a))
  pub row : (k : ℕ) → s'.row a 0 k ≡ same k a
  pub entry : s'.entry a 0 a ≡ v
  pub estimate : (k : ℕ) → s'.estimate a k ≡ same k a
  pub value : s'.value a a ≡ v
  pub value_row : (k : ℕ) → s'.value a k ≡ s'.entry a 0 k

-- 2: a sends what it owes b
pub record Send (n : ℕ) (s s' : View) (a b : ℕ) : Type 0 where
  pub low : a < n
  pub low_b : b < n
  pub apart : a ≢ b
  pub running : s.crashed a ≡ false
  pub owed : s.outbox a b ≡ true
  pub others : Others s s' a
  pub calm : Calm s s' a
  pub decision : SameDecision s s' a
  pub crashed : (x : ℕ) → s'.crashed x ≡ s.crashed x
  pub received : (r y : ℕ) → s'.received a r y ≡ s.received a r y
  pub suspected : (y : ℕ) → s'.suspected a y ≡ s.suspected a y
  pub outbox : (y : ℕ) → s'.outbox a y ≡ (s.outbox a y and not (same y b))
  pub transit : (x r y : ℕ) → s'.transit x r y ≡ (same3 x r y a (slot s a) b or s.transit x r y)

-- 3: message r of a arrives at b, as far as all its cases are alike
pub record Arrive (n t : ℕ) (s s' : View) (a r b : ℕ) : Type 0 where
  pub low : a < n
  pub low_b : b < n
  pub apart : a ≢ b
  pub bound : r ≤ suc t
  pub running : s.crashed b ≡ false
  pub sent : s.transit a r b ≡ true
  pub others : Others s s' b
  pub calm : Calm s s' b
  pub crashed : (x : ℕ) → s'.crashed x ≡ s.crashed x
  pub suspected : (y : ℕ) → s'.suspected b y ≡ s.suspected b y
  pub transit : (x m y : ℕ) → s'.transit x m y ≡ (s.transit x m y and not (same3 x m y a r b))

-- an estimate that is kept: for a later round, or for this round and from the current set
unfoldable pub keeping : View → ℕ → ℕ → ℕ → Bool
keeping s a r b =
    less 0 r and (not (s.decided b) and (less (s.round b) r or (same r (s.round b) and s.current b a)))

pub record Keep (n t : ℕ) (s s' : View) (a r b : ℕ) : Type 0 where
  pub arrive : Arrive n t s s' a r b
  pub kept_here : keeping s a r b ≡ true
  pub decision : SameDecision s s' b
  pub outbox : (y : ℕ) → s'.outbox b y ≡ s.outbox b y
  pub received : (m y : ℕ) → s'.received b m y ≡ ((same m r and same y a) or s.received b m y)

-- a decision that b takes over
unfoldable pub taken : View → ℕ → ℕ → Bool
taken s r b = same r 0 and (not (s.decided b) and less 0 (s.round b))

pub record Adopt (n t : ℕ) (s s' : View) (a r b : ℕ) : Type 0 where
  pub arrive : Arrive n t s s' a r b
  pub taken_here : taken s r b ≡ true
  pub decided : s'.decided b ≡ true
  pub estimate : (k : ℕ) → s'.estimate b k ≡ s.estimate a k
  pub value : (k : ℕ) → s'.value b k ≡ s.value a k
  pub received : (m y : ℕ) → s'.received b m y ≡ s.received b m y
  pub outbox : (y : ℕ) → s'.outbox b y
      ≡ (less y n and (not (same y b) and (not (s.suspected b y) and not (same y a))))

-- neither: it only leaves transit
pub record Ignore (n t : ℕ) (s s' : View) (a r b : ℕ) : Type 0 where
  pub arrive : Arrive n t s s' a r b
  pub not_kept : keeping s a r b ≡ false
  pub not_taken : taken s r b ≡ false
  pub decision : SameDecision s s' b
  pub outbox : (y : ℕ) → s'.outbox b y ≡ s.outbox b y
  pub received : (m y : ℕ) → s'.received b m y ≡ s.received b m y

-- 4: a closes its round suc q, as far as both ends are alike. Its own estimate is among
-- those put together and compared.
pub record Close (n : ℕ) (s s' : View) (a q : ℕ) : Type 0 where
  pub low : a < n
  pub running : s.crashed a ≡ false
  pub undecided : s.decided a ≡ false
  pub is_at : s.round a ≡ suc q
  pub owes_none : (y : ℕ) → s.outbox a y ≡ false
  pub heard : (y : ℕ) → s.current a y ≡ true → (y ≡ a) ⊎ (s.received a (suc q) y ≡ true) ⊎ (s.suspected a y ≡ true)
  pub others : Others s s' a
  pub crashed : (x : ℕ) → s'.crashed x ≡ s.crashed x
  pub transit : (x r y : ℕ) → s'.transit x r y ≡ s.transit x r y
  pub received : (r y : ℕ) → s'.received a r y ≡ s.received a r y
  pub suspected : (y : ℕ) → s'.suspected a y ≡ s.suspected a y
  pub closed : s'.closed a ≡ suc (s.closed a)
  pub row_old : (l k : ℕ) → l < s.closed a → s'.row a l k ≡ s.row a l k
  pub entry_old : (l k : ℕ) → l < s.closed a → s'.entry a l k ≡ s.entry a l k
  -- the new estimate is estimate number suc q
  pub estimate : (k : ℕ) → s'.estimate a k ≡ s'.row a (suc q) k
  pub value : (k : ℕ) → s'.value a k ≡ s'.entry a (suc q) k
  -- it has all that its own old one and those of the next set have, and no more
  pub fill_own : (k : ℕ) → s.estimate a k ≡ true → s'.row a (suc q) k ≡ true
  pub fill : (y k : ℕ) → y ≢ a → next s a y ≡ true → s.row y q k ≡ true → s'.row a (suc q) k ≡ true
  pub from : (k : ℕ) → s'.row a (suc q) k ≡ true
      → ((s.estimate a k ≡ true) × (s'.entry a (suc q) k ≡ s.value a k))
      ⊎ ((y : ℕ) × (y ≢ a) × (next s a y ≡ true) × (s.row y q k ≡ true) × (s'.entry a (suc q) k ≡ s.entry y q k))

-- two entries differ: one is present and the other not, or their values differ
unfoldable pub Differ : Bool → ℕ → Bool → ℕ → Type 0
Differ p v p' v' = (p ≢ p') ⊎ ((p ≡ true) × (p' ≡ true) × (v ≢ v'))

-- it opens the next round, for one of two reasons
pub record Open (n t : ℕ) (s s' : View) (a q : ℕ) : Type 0 where
  pub close : Close n s s' a q
  pub more : q < t
  pub round : s'.round a ≡ suc (suc q)
  pub decided : s'.decided a ≡ false
  pub previous : (y : ℕ) → s'.previous a y ≡ s.current a y
  pub current : (y : ℕ) → s'.current a y ≡ next s a y
  pub outbox : (y : ℕ) → s'.outbox a y ≡ (next s a y and not (same y a))
  pub why : ((y : ℕ) × (y < n) × (s.previous a y ≢ next s a y))
      ⊎ (((k : ℕ) × (k < n) × Differ (s.estimate a k) (s.value a k) (s'.row a (suc q) k) (s'.entry a (suc q) k))
      ⊎ ((y k : ℕ) × (y < n) × (y ≢ a) × (next s a y ≡ true) × (k < n)
      × Differ (s.row y q k) (s.entry y q k) (s'.row a (suc q) k) (s'.entry a (suc q) k)))

-- or decides
pub record Decide (n t : ℕ) (s s' : View) (a q : ℕ) : Type 0 where
  pub close : Close n s s' a q
  pub round : s'.round a ≡ suc q
  pub decided : s'.decided a ≡ true
  pub previous : (y : ℕ) → s'.previous a y ≡ s.previous a y
  pub current : (y : ℕ) → s'.current a y ≡ s.current a y
  pub outbox : (y : ℕ) → s'.outbox a y ≡ (less y n and (not (same y a) and not (s.suspected a y)))
  -- before the last round: the sets are one, and so are the estimates
  pub same_sets : q < t → (y : ℕ) → s.previous a y ≡ next s a y
  pub same_own : q < t → (k : ℕ) → k < n → s.estimate a k ≡ s'.row a (suc q) k
  pub same_rows : q < t → (y k : ℕ) → k < n → y ≢ a → next s a y ≡ true → s.row y q k ≡ s'.row a (suc q) k

-- 5: a crashes
pub record Crash (n t : ℕ) (s s' : View) (a : ℕ) : Type 0 where
  pub low : a < n
  pub running : s.crashed a ≡ false
  pub few : count_to n s.crashed < t
  pub others : Others s s' a
  pub calm : Calm s s' a
  pub decision : SameDecision s s' a
  pub transit : (x r y : ℕ) → s'.transit x r y ≡ s.transit x r y
  pub received : (r y : ℕ) → s'.received a r y ≡ s.received a r y
  pub suspected : (y : ℕ) → s'.suspected a y ≡ s.suspected a y
  pub outbox : (y : ℕ) → s'.outbox a y ≡ s.outbox a y
  pub crashed : (x : ℕ) → s'.crashed x ≡ (same x a or s.crashed x)

-- 6: a suspects b
pub record Suspect (n : ℕ) (s s' : View) (a b : ℕ) : Type 0 where
  pub low : a < n
  pub low_b : b < n
  pub apart : a ≢ b
  pub running : s.crashed a ≡ false
  pub gone : s.crashed b ≡ true
  pub fresh : s.suspected a b ≡ false
  pub others : Others s s' a
  pub calm : Calm s s' a
  pub decision : SameDecision s s' a
  pub crashed : (x : ℕ) → s'.crashed x ≡ s.crashed x
  pub transit : (x r y : ℕ) → s'.transit x r y ≡ s.transit x r y
  pub received : (r y : ℕ) → s'.received a r y ≡ s.received a r y
  pub outbox : (y : ℕ) → s'.outbox a y ≡ s.outbox a y
  pub suspected : (y : ℕ) → s'.suspected a y ≡ (same y b or s.suspected a y)

-- an accepted record
pub data OneStep (n t : ℕ) (s s' : View) : Type 0 where
  starts : {a v : ℕ} → Start n s s' a v → OneStep n t s s'
  sends : {a b : ℕ} → Send n s s' a b → OneStep n t s s'
  keeps : {a r b : ℕ} → Keep n t s s' a r b → OneStep n t s s'
  adopts : {a r b : ℕ} → Adopt n t s s' a r b → OneStep n t s s'
  ignores : {a r b : ℕ} → Ignore n t s s' a r b → OneStep n t s s'
  opens : {a q : ℕ} → Open n t s s' a q → OneStep n t s s'
  decides : {a q : ℕ} → Decide n t s s' a q → OneStep n t s s'
  crashes : {a : ℕ} → Crash n t s s' a → OneStep n t s s'
  suspects : {a b : ℕ} → Suspect n s s' a b → OneStep n t s s'

-- the opened bench: nothing has happened
pub record Opened (s : View) : Type 0 where
  pub round : (x : ℕ) → s.round x ≡ 0
  pub closed : (x : ℕ) → s.closed x ≡ 0
  pub decided : (x : ℕ) → s.decided x ≡ false
  pub crashed : (x : ℕ) → s.crashed x ≡ false
  pub previous : (x y : ℕ) → s.previous x y ≡ false
  pub current : (x y : ℕ) → s.current x y ≡ false
  pub suspected : (x y : ℕ) → s.suspected x y ≡ false
  pub outbox : (x y : ℕ) → s.outbox x y ≡ false
  pub received : (x r y : ℕ) → s.received x r y ≡ false
  pub transit : (x r y : ℕ) → s.transit x r y ≡ false
