-- What the lines of a text give: the specs of its fetch lines and its names, or the first line that is refused.
use Rattle.std.specs.Prelude.{ℕ, zero, suc, ◌+◌, cond, List, [], ◌∷◌, ◌++◌, eqb, leb, ltb, length, get_or}
use Rattle.meaning.specs.Bytes.{Text, percent}
use Rattle.meaning.specs.Limits.{spec_list_bytes, spec_count, item_count, name_bytes, item_list_bytes}
use Rattle.meaning.specs.Spec.{◌else◌then◌, spec_refusal}
use Rattle.meaning.specs.Number.{text_bytes, record_bytes}
use Rattle.print.specs.Unshown.{Unshown, stands, fault, unshown}
use Rattle.text_lists.specs.Line.{lines_of, Held, nothing, marked, unknown, fetch, push, name, shown, held_in}

-- 12 where a list of `size` bytes would be above its limit with a text more; 0: it is not
unfoldable pub room_reason : ℕ → ℕ → Text → ℕ
room_reason limit size t = leb (size + length (text_bytes t)) limit else 12 then 0

-- why a spec is refused that so many specs come before, in a list of `size` bytes; 0: it is not
unfoldable pub spec_reason : ℕ → ℕ → Text → ℕ
spec_reason count size t =
    ltb count spec_count else 14 then
    eqb (spec_refusal 0 t) 0 else spec_refusal 0 t then
    room_reason spec_list_bytes size t

-- why a name is refused that so many names come before, in a list of `size` bytes; 0: it is not
unfoldable pub name_reason : ℕ → ℕ → Text → ℕ
name_reason count size t =
    ltb count item_count else 14 then
    leb (length t) name_bytes else 15 then
    room_reason item_list_bytes size t

-- why a name as a listing shows it is refused that has a fault after so many bytes: 104 without `=` before it, 105 for a `%` without two
-- digits, 106 for a byte that no listing prints
abbrev pub fault_reason : Text → ℕ → ℕ
fault_reason u zero = 104
fault_reason u (suc k) = cond (eqb percent (get_or u (suc k) 0)) 105 106

-- why a name is refused that is read from what a listing shows; 0: it is not
abbrev pub unshown_reason : ℕ → ℕ → Text → Unshown → ℕ
unshown_reason count size u (stands t) = name_reason count size t
unshown_reason count size u (fault k) = fault_reason u k

-- the name that is read
abbrev pub unshown_names : Unshown → List Text
unshown_names (stands t) = t ∷ []
unshown_names (fault k) = []

-- why what a line holds is refused, after lists of so many records and bytes: 101 for a push, 102 for a line of no known kind, 103 for a
-- byte order mark; 0: it is not
abbrev pub reason_of : ℕ → ℕ → ℕ → ℕ → Held → ℕ
reason_of specs specs_size names names_size nothing = 0
reason_of specs specs_size names names_size marked = 103
reason_of specs specs_size names names_size unknown = 102
reason_of specs specs_size names names_size (fetch t) = spec_reason specs specs_size t
reason_of specs specs_size names names_size (push t) = 101
reason_of specs specs_size names names_size (name t) = name_reason names names_size t
reason_of specs specs_size names names_size (shown u) = unshown_reason names names_size u (unshown u)

-- the specs that a line adds
abbrev pub specs_in : Held → List Text
specs_in nothing = []
specs_in marked = []
specs_in unknown = []
specs_in (fetch t) = t ∷ []
specs_in (push t) = []
specs_in (name t) = []
specs_in (shown u) = []

-- the names that a line adds
abbrev pub names_in : Held → List Text
names_in nothing = []
names_in marked = []
names_in unknown = []
names_in (fetch t) = []
names_in (push t) = []
names_in (name t) = t ∷ []
names_in (shown u) = unshown_names (unshown u)

-- the number of the first line that is refused, the reason and the line, or 0, 0 and no bytes; the specs and the names of the lines before
-- it, or of all
pub record Gathering : Type 0 where
  pub line : ℕ
  pub reason : ℕ
  pub text : Text
  pub specs : List Text
  pub names : List Text

-- the walk stops at line k for a reason, or goes on
abbrev pub unless_stopped : ℕ → ℕ → Text → List Text → List Text → Gathering → Gathering
unless_stopped zero k l specs names rest = rest
unless_stopped (suc n) k l specs names rest = record { line = k; reason = suc n; text = l; specs = specs; names = names }

-- the lines from number k on, after the specs and the names so far
abbrev pub gather : ℕ → List Text → List Text → List Text → Gathering
gather k specs names [] = record { line = 0; reason = 0; text = []; specs = specs; names = names }
gather k specs names (l ∷ lines) =
    unless_stopped (reason_of (length specs) (length (record_bytes specs)) (length names) (length (record_bytes names)) (held_in l)) k l specs names
    (gather (k + 1) (specs ++ specs_in (held_in l)) (names ++ names_in (held_in l)) lines)

-- what the lines of a text give; they count from 1
unfoldable pub gathered : Text → Gathering
gathered s = gather 1 [] [] (lines_of s)
