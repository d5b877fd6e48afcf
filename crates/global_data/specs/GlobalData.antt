-- The global data (document 01's sheet): an entry for each process, absent or a value,
-- and how entries are filled and compared.
use Rattle.std.specs.Prelude.{Bool, true, false, not, Option, None, Some, List, [], ℕ, zero, suc, ◌/◌, ◌%◌}
use Rattle.std.specs.Prelude.{get_or, set, replicate}
use Rattle.sets.specs.Lists.{each, every}
use Rattle.sets.specs.Set.{has, insert_of, union_of, difference_of, empty_set}
use Rattle.sets.specs.Truth.{◌and◌, same, less, select}
use Rattle.global_data.specs.declared.GlobalData.{GlobalData}
use Rattle.global_data.specs.declared.Value.{Value}

-- ---- a value (request C-15): portions, and the diet portions among them, 16 bits each.
-- A word holds both, portions in its low half and diet portions in its high half.
unfoldable pub portions_of : ℕ → ℕ
portions_of w = w % 65536

unfoldable pub diet_of : ℕ → ℕ
diet_of w = w / 65536

abbrev pub value_in : ℕ → Value
value_in w = record { portions = portions_of w; diet = diet_of w }

-- ---- entries: absent, or a value
abbrev pub Entry : Type 0
Entry = Option Value

-- one of p portions and d diet portions
abbrev pub entry_with : ℕ → ℕ → Entry
entry_with p d = Some (record { portions = p; diet = d })

-- the entry of a present bit and a word: document 01's blank, or the value in the word
abbrev pub entry_by : Bool → ℕ → Entry
entry_by b w = select b (Some (value_in w)) None

unfoldable pub entry_of : GlobalData → ℕ → Entry
entry_of g k = entry_by (has g.present k) (get_or g.values k 0)

-- absent in both, or in both the same portions and the same diet portions
unfoldable pub same_entry : Entry → Entry → Bool
same_entry None None = true
same_entry None (Some w) = false
same_entry (Some v) None = false
same_entry (Some v) (Some w) = same v.portions w.portions and same v.diet w.diet

-- what refusal 15 looks at: the diet portions do not exceed the portions. An absent entry has neither.
unfoldable pub diet_fits : Entry → Bool
diet_fits None = true
diet_fits (Some v) = not (less v.portions v.diet)

-- every entry absent
unfoldable pub nothing_of : GlobalData
nothing_of = record { present = empty_set; values = replicate 16 0 }

-- entry i alone, with the value in the word v
unfoldable pub one_of : ℕ → ℕ → GlobalData
one_of i v = record { present = insert_of empty_set i; values = set (replicate 16 0) i v }

-- the word of entry k once g is filled from row: the row's, where row has the entry and g lacks it
unfoldable pub filled_word : GlobalData → GlobalData → ℕ → ℕ
filled_word g row k =
    select (has (difference_of row.present g.present) k) (get_or row.values k 0) (get_or g.values k 0)

-- each entry absent in g takes the row's
unfoldable pub fill_of : GlobalData → GlobalData → GlobalData
fill_of g row = record { present = union_of g.present row.present; values = each 16 (filled_word g row) }

-- g, filled from the rows of the members of m below p, in rising order
unfoldable pub fill_from : ℕ → ℕ → (ℕ → GlobalData) → GlobalData → GlobalData
fill_from zero m rows g = g
fill_from (suc p) m rows g = select (has m p) (fill_of (fill_from p m rows g) (rows p)) (fill_from p m rows g)

-- each entry below n is the same in both
unfoldable pub same_to : ℕ → GlobalData → GlobalData → Bool
same_to n g h = every n (λ k. same_entry (entry_of g k) (entry_of h k))

-- the row of each member of m below p is the same as g, in the entries below n
unfoldable pub all_same : ℕ → ℕ → ℕ → (ℕ → GlobalData) → GlobalData → Bool
all_same p n m rows g = every p (λ q. select (has m q) (same_to n (rows q) g) true)

-- what lies past the end of an array of rows
abbrev pub no_data : GlobalData
no_data = record { present = 0; values = [] }

abbrev pub rows_of : List GlobalData → ℕ → GlobalData
rows_of rows p = get_or rows p no_data
