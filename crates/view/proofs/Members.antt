-- The record of a member of a list that was read. Assumes nothing.
use mathlib.Core.Path.{◌≡◌, refl, ap, ◌∙◌}
use mathlib.Core.Bool.{Bool, true, false, cond}
use mathlib.Core.List.{List, [], ◌∷◌, ◌++◌}
use mathlib.Core.Option.{none, some}
use Prim.Native.Nat.{ℕ, zero, suc, ◌<◌, ◌≤◌}
use native.Mathlib.Omega.{arith}
use lib.Dec.{leb}
use lib.ListN.{length}
use Rattle.meaning.specs.Bytes.{Text}
use Rattle.meaning.specs.Limits.{spec_list_bytes, item_list_bytes}
use Rattle.meaning.specs.Spec.{Answer, accepted, refused, Spec, read_spec}
use Rattle.meaning.specs.Number.{Step, took, no, Reader, read_number, read_bytes, read_text}
use Rattle.meaning.specs.Lists.{with_first, record_then, records_from, read_list, spec_record, item_record, read_specs, read_items}
use Rattle.meaning.specs.View.{left_by, from_record, nth}
use Rattle.promises.proofs.Members.{step-took, specs-list}
use Rattle.promises.proofs.Spelling.{bytes-spelled}
use Rattle.promises.proofs.Viewing.{item-reads, spec-reads}
use Rattle.view.specs.Places.{after_records}

-- a list from a record's text on is what its number leaves after the records before it
from-record : (n : ℕ) (s : Text) → from_record n s ≡ left_by (read_number (after_records n s))
from-record zero s = refl
from-record (suc n) s = from-record n (left_by (read_text s))

-- a text stands after its number
text-left : (s t rest : Text) → read_text s ≡ took t rest → left_by (read_number s) ≡ t ++ rest
unfolding read_text
text-left s t rest e =
    let q = step-took (read_number s) read_bytes e in
    ap left_by q.2 ∙ (bytes-spelled q.0 q.1 t rest q.3).0

-- so does that of record n in the list
pub text-from : (n : ℕ) (s t rest : Text) → read_text (after_records n s) ≡ took t rest → from_record n s ≡ t ++ rest
text-from n s t rest e = from-record n s ∙ text-left (after_records n s) t rest e

-- the record of a member
module _ {B : Type 0} (one : ℕ → Reader B) (reads : (i : ℕ) (s : Text) (b : B) (rest : Text) → one i s ≡ took b rest → left_by (read_text s) ≡ rest) where
  abbrev Reached : Text → List B → Type 0
  Reached s l = (j : ℕ) (b : B) → nth l j ≡ some b → (i : ℕ) × (rest : Text) × (one i (after_records j s) ≡ took b rest)

  reached-none : (s : Text) (l : List B) → ◌≡◌ {A = Answer (List B)} (accepted []) (accepted l) → Reached s l
  reached-none s l e j b h = absurd (let u : nth {A = B} [] j ≡ some b = rw (let v : l ≡ [] = cc in v) at h in let z : ◌≡◌ {A = ℕ} 0 1 = cc in omega arith)

  reached-here : (i : ℕ) (s : Text) (b₀ : B) (rest : Text) (l : List B) → one i s ≡ took b₀ rest → Reached rest l → Reached s (b₀ ∷ l)
  reached-here i s b₀ rest l e f zero b h = let u : b₀ ≡ b = cc in (i, rest, e ∙ ap (λ (x : B). took x rest) u)
  reached-here i s b₀ rest l e f (suc j) b h =
      let g = f j b h in
      (g.0, g.1, ap (λ (x : Text). one g.0 (after_records j x)) (reads i s b₀ rest e) ∙ g.2)

  reached_then : (i : ℕ) (s : Text) (b₀ : B) (rest : Text) → one i s ≡ took b₀ rest → (a : Answer (List B)) → ((l : List B) → a ≡ accepted l → Reached rest l) → (l : List B) → with_first b₀ a ≡ accepted l → Reached s l
  reached_then i s b₀ rest e (accepted l₀) f l h = let u : b₀ ∷ l₀ ≡ l = cc in rw (← u) (reached-here i s b₀ rest l₀ e (f l₀ refl))
  reached_then i s b₀ rest e (refused n r) f l h = absurd (let z : ◌≡◌ {A = ℕ} 0 1 = cc in omega arith)

  reached-step : (i : ℕ) (s : Text) (st : Step B) → one i s ≡ st → (g : Text → Answer (List B)) → ((rest : Text) (l : List B) → g rest ≡ accepted l → Reached rest l) → (l : List B) → record_then i st g ≡ accepted l → Reached s l
  reached-step i s (took b rest) e g f l h = reached_then i s b rest e (g rest) (f rest) l h
  reached-step i s (no n) e g f l h = absurd (let z : ◌≡◌ {A = ℕ} 0 1 = cc in omega arith)

  reached : (k i : ℕ) (s : Text) (l : List B) → records_from one k i s ≡ accepted l → Reached s l
  reached zero i [] l e = reached-none [] l e
  reached zero i (x ∷ s) l e = absurd (let z : ◌≡◌ {A = ℕ} 0 1 = cc in omega arith)
  reached (suc k) i [] l e = reached-none [] l e
  reached (suc k) i (x ∷ s) l e = reached-step i (x ∷ s) (one i (x ∷ s)) refl (λ rest. records_from one k (suc i) rest) (λ rest m h. reached k (suc i) rest m h) l e

  reached-list : (limit : ℕ) (s : Text) (l : List B) → read_list limit one s ≡ accepted l → Reached s l
  unfolding read_list
  reached-list limit s l e = go (leb (length s) limit) e
    where
      go : (c : Bool) → cond c (records_from one (length s) 0 s) (refused 12 none) ≡ accepted l → Reached s l
      go true p = reached (length s) 0 s l p
      go false p = absurd (let z : ◌≡◌ {A = ℕ} 0 1 = cc in omega arith)

-- a text that was read, and what is left after it
item-leaves : (i : ℕ) (s b rest : Text) → item_record i s ≡ took b rest → left_by (read_text s) ≡ rest
item-leaves i s b rest e = ap left_by (item-reads i s b rest e).1

spec-leaves : (op i : ℕ) (s : Text) (b : Spec) (rest : Text) → spec_record op i s ≡ took b rest → left_by (read_text s) ≡ rest
spec-leaves op i s b rest e = ap left_by (spec-reads op i s b rest e).1

-- an item's name is the text of its record
pub item-text : (items : Text) (names : List Text) (j : ℕ) (t : Text) → read_items items ≡ accepted names → nth names j ≡ some t → (rest : Text) × (read_text (after_records j items) ≡ took t rest)
unfolding read_items
item-text items names j t e h =
    let g = reached-list item_record item-leaves item_list_bytes items names e j t h in
    let r = item-reads g.0 (after_records j items) t g.1 g.2 in
    (g.1, r.1 ∙ ap (λ (x : Text). took x g.1) r.2)

-- a spec is read from the text of its record
pub spec-text : (op : ℕ) (specs : Text) (group : List Spec) (i : ℕ) (s : Spec) → read_specs op specs ≡ accepted group → nth group i ≡ some s → (t : Text) × (rest : Text) × (read_text (after_records i specs) ≡ took t rest) × (read_spec op t ≡ accepted s)
spec-text op specs group i s e h =
    let g = reached-list (spec_record op) (spec-leaves op) spec_list_bytes specs group (specs-list op specs group e) i s h in
    let r = spec-reads op g.0 (after_records i specs) s g.1 g.2 in
    (r.0, g.1, r.1, r.2)

-- a number below the count is a member's
pub nth-there : {A : Type 0} (l : List A) (n : ℕ) → n < length l → (a : A) × (nth l n ≡ some a)
nth-there [] n h = absurd (omega arith)
nth-there (x ∷ l) zero h = (x, refl)
nth-there (x ∷ l) (suc n) h = nth-there l n (omega arith)

-- one at or above it is none's
pub nth-none : {A : Type 0} (l : List A) (n : ℕ) → length l ≤ n → nth l n ≡ none
nth-none [] n h = refl
nth-none (x ∷ l) zero h = absurd (omega arith)
nth-none (x ∷ l) (suc n) h = nth-none l n (omega arith)
