-- The source view: a part of the item list, or of the spec list for an object source.
use Rattle.std.specs.Prelude.{ℕ, zero, suc, ◌-◌, List, [], ◌∷◌, length, take, drop}
use Rattle.std.proofs.Math.Option.{Option, none, some}
use Rattle.meaning.specs.Bytes.{Text}
use Rattle.meaning.specs.Spec.{Answer, accepted, refused, Spec, unsigned}
use Rattle.meaning.specs.Buffers.{or_zero}
use Rattle.meaning.specs.Number.{Step, took, no, read_number, read_text}
use Rattle.meaning.specs.Lists.{read_specs, read_items}
use Rattle.meaning.specs.Match.{object_source}
use Rattle.meaning.specs.Entries.{◌and_then◌}

-- the list that a part is of
pub data Lent : Type 0 where
  item_list spec_list : Lent

-- a part of a lent list: of which, how many bytes stand before it, how many it has
pub record Part : Type 0 where
  pub list : Lent
  pub start : ℕ
  pub size : ℕ

-- what a step left; nothing where it refused
abbrev pub left_by : {A : Type 0} → Step A → Text
left_by (took a rest) = rest
left_by (no n) = []

-- a list from the text of record n on
abbrev pub from_record : ℕ → Text → Text
from_record zero list = left_by (read_number list)
from_record (suc n) list = from_record n (left_by (read_text list))

-- the part of a list that begins where so much of the list is left
abbrev pub part_from : Lent → Text → Text → ℕ → Part
part_from which list rest size = record { list = which; start = length list - length rest; size = size }

-- member number n of a list, if there is one
abbrev pub nth : {A : Type 0} → List A → ℕ → Option A
nth [] n = none
nth (x ∷ l) zero = some x
nth (x ∷ l) (suc n) = nth l n

-- the digits of an object source as the spec spells them: they begin after the sign. 16 where the source is no object id
abbrev pub digits_part : Text → ℕ → Option Text → Answer Part
digits_part specs i none = refused 16 none
digits_part specs i (some t) = accepted (part_from spec_list specs (unsigned (from_record i specs)) (length t))

-- an item's name, 16 where there is none
abbrev pub item_part : Text → ℕ → Option Text → Answer Part
item_part items j none = refused 16 none
item_part items j (some t) = accepted (part_from item_list items (from_record j items) (length t))

-- field 0 takes the digits of the spec's object source, a higher field that item's name; 16 for a spec outside the list
abbrev pub view_of : Text → Text → Option Spec → List Text → ℕ → ℕ → Answer Part
view_of specs items none names field i = refused 16 none
view_of specs items (some s) names zero i = digits_part specs i (object_source s)
view_of specs items (some s) names (suc j) i = item_part items j (nth names j)

-- the source view of a forward row's item field and spec number
unfoldable pub source_view : ℕ → Text → Text → ℕ → ℕ → Answer Part
source_view op specs items field spec =
    read_specs op specs and_then λ group.
    read_items items and_then λ names.
    view_of specs items (nth group spec) names field spec

-- the list of a part
abbrev pub lent_list : Lent → Text → Text → Text
lent_list item_list specs items = items
lent_list spec_list specs items = specs

-- the bytes of a part
abbrev pub part_text : Part → Text → Text → Text
part_text p specs items = take p.size (drop p.start (lent_list p.list specs items))

-- the bytes that a view hands back: a refused one an empty part
abbrev pub view_text : Answer Part → Text → Text → Text
view_text (refused n r) specs items = []
view_text (accepted p) specs items = part_text p specs items

-- the numbers that a view answers: refusal, record, list (0 the items, 1 the specs), start and length; a refused part is all 0
pub record ViewNumbers : Type 0 where
  pub refusal : ℕ
  pub record_number : ℕ
  pub list : ℕ
  pub start : ℕ
  pub size : ℕ

-- the number of a lent list
abbrev pub lent_number : Lent → ℕ
lent_number item_list = 0
lent_number spec_list = 1

-- a view in numbers
abbrev pub view_numbers : Answer Part → ViewNumbers
view_numbers (refused n r) = record { refusal = n; record_number = or_zero r; list = 0; start = 0; size = 0 }
view_numbers (accepted p) = record { refusal = 0; record_number = 0; list = lent_number p.list; start = p.start; size = p.size }
