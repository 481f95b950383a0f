-- The pairs of a spec and a name that give a row, and what they give. A hit is a number: which spec it is of, and the item field of its row.
use Rattle.std.specs.Prelude.{ℕ, zero, suc, ◌+◌, ◌*◌, ◌/◌, ◌%◌, Bool, true, false, cond, List, [], ◌∷◌, ◌++◌, eqb, length, get_or}
use Rattle.meaning.specs.Bytes.{Text}
use Rattle.meaning.specs.Limits.{item_count, spec_count}
use Rattle.meaning.specs.Spec.{Spec}
use Rattle.parse.specs.Places.{part_at}
use Rattle.matcher_table.specs.Numbers.{matcher_at}
use Rattle.filter.specs.Filters.{name_at}
use Rattle.match_row.specs.Pairs.{matcher_spec, item_bytes, object_bytes, field_bytes}

-- what each number from i on gives, k of them
abbrev pub across : {B : Type 0} → (ℕ → List B) → ℕ → ℕ → List B
across f i zero = []
across f i (suc k) = f i ++ across f (suc i) k

-- spec number i of a table
abbrev pub spec_at : Text → List ℕ → ℕ → Spec
spec_at specs table i = matcher_spec specs (matcher_at table i)

-- what name j gives under spec i, which is s, unless its source is gone
abbrev pub pair_gives : Bool → (Text → Bool) → Spec → Text → List ℕ → ℕ → ℕ → Text
pair_gives back gone s items places i j = item_bytes back gone i j (name_at items places j) s

-- what the first n names give
abbrev pub names_give : Bool → (Text → Bool) → Spec → Text → List ℕ → ℕ → ℕ → Text
names_give back gone s items places n i = across (pair_gives back gone s items places i) 0 n

-- what they give under spec i of a table
abbrev pub spec_gives : Bool → (Text → Bool) → Text → List ℕ → Text → List ℕ → ℕ → ℕ → Text
spec_gives back gone specs table items places n i = names_give back gone (spec_at specs table i) items places n i

-- what they give under the first `group` specs
abbrev pub group_gives : Bool → (Text → Bool) → Text → List ℕ → ℕ → Text → List ℕ → ℕ → Text
group_gives back gone specs table group items places n = across (spec_gives back gone specs table items places n) 0 group

-- what these specs give as object sources
abbrev pub objects_give : Text → List ℕ → ℕ → Text
objects_give specs table group = across (λ i. object_bytes i (spec_at specs table i)) 0 group

-- hits of one spec and of the next are so far apart: further than there are item fields
abbrev pub hit_stride : ℕ
hit_stride = 2 * item_count

-- the hit of spec i with an item field
abbrev pub hit_of : ℕ → ℕ → ℕ
hit_of i field = hit_stride * i + field

-- no hit is above this one
abbrev pub hit_most : ℕ
hit_most = hit_of spec_count item_count

-- a hit that takes so many bytes, unless it takes none
abbrev pub hit_if : ℕ → ℕ → List ℕ
hit_if size hit = cond (eqb size 0) [] (hit ∷ [])

-- the hit of name j under spec i, which is s
abbrev pub pair_hits : Bool → (Text → Bool) → Spec → Text → List ℕ → ℕ → ℕ → List ℕ
pair_hits back gone s items places i j = hit_if (length (pair_gives back gone s items places i j)) (hit_of i (j + 1))

-- those of the first n names
abbrev pub names_hits : Bool → (Text → Bool) → Spec → Text → List ℕ → ℕ → ℕ → List ℕ
names_hits back gone s items places n i = across (pair_hits back gone s items places i) 0 n

-- those under spec i of a table
abbrev pub spec_hits : Bool → (Text → Bool) → Text → List ℕ → Text → List ℕ → ℕ → ℕ → List ℕ
spec_hits back gone specs table items places n i = names_hits back gone (spec_at specs table i) items places n i

-- and under the first `group` specs
abbrev pub group_hits : Bool → (Text → Bool) → Text → List ℕ → ℕ → Text → List ℕ → ℕ → List ℕ
group_hits back gone specs table group items places n = across (spec_hits back gone specs table items places n) 0 group

-- those of these specs as object sources
abbrev pub object_hits : Text → List ℕ → ℕ → List ℕ
object_hits specs table group = across (λ i. hit_if (length (object_bytes i (spec_at specs table i))) (hit_of i 0)) 0 group

-- what comes first in a listing of a table: forward, the objects' rows
abbrev pub first_bytes : Bool → Text → List ℕ → ℕ → Text
first_bytes true specs table group = []
first_bytes false specs table group = objects_give specs table group

-- and their hits
abbrev pub first_hits : Bool → Text → List ℕ → ℕ → List ℕ
first_hits true specs table group = []
first_hits false specs table group = object_hits specs table group

-- where the name of an item field begins, and how many bytes it has; no item has none
abbrev pub field_start : List ℕ → ℕ → ℕ
field_start places zero = 0
field_start places (suc j) = get_or places (2 * j) 0

abbrev pub field_size : List ℕ → ℕ → ℕ
field_size places zero = 0
field_size places (suc j) = get_or places (2 * j + 1) 0

-- the name of an item field
abbrev pub field_name : Text → List ℕ → ℕ → Text
field_name items places field = part_at items (field_start places field) (field_size places field)

-- what a hit gives under a spec
abbrev pub under_spec : Bool → Text → List ℕ → ℕ → Spec → Text
under_spec back items places hit = field_bytes back (hit / hit_stride) (hit % hit_stride) (field_name items places (hit % hit_stride))

-- what it gives under its own
abbrev pub hit_bytes : Bool → Text → List ℕ → Text → List ℕ → ℕ → Text
hit_bytes back specs table items places hit = under_spec back items places hit (spec_at specs table (hit / hit_stride))
