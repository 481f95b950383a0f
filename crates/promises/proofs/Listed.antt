-- What is written under a spec is what listings have: every row of a listing is written under its spec, and what is written is listed
-- for some items. Assumes nothing.
use mathlib.Core.Path.{◌≡◌, refl, sym, ap, ◌∙◌}
use mathlib.Core.Logic.{◌⊎◌, inl, inr}
use mathlib.Core.Bool.{Bool, true, false}
use mathlib.Core.List.{List, [], ◌∷◌}
use mathlib.Core.Option.{Option, some, map}
use Prim.Native.Nat.{ℕ, zero, suc}
use native.Mathlib.Omega.{arith}
use Rattle.meaning.specs.Bytes.{Text, each, numbered, lower, In, here}
use Rattle.meaning.specs.Spec.{accepted, Spec, is_negative, read_spec}
use Rattle.meaning.specs.Rows.{Row}
use Rattle.meaning.specs.Match.{form_of, object_source, whole, mapped, maps_to, forward}
use Rattle.meaning.specs.Listing.{forward_ends, group_rows, object_rows, excludes, not_excluded, forward_rows}
use Rattle.meaning.specs.View.{nth}
use Rattle.promises.specs.Collisions.{WrittenTo, by_name, by_object, WrittenIsListed}
use Rattle.promises.proofs.Laws.{in_left, in-append, in-keep, keep-in, each_in, numbered-place}
use Rattle.promises.proofs.Accepted.{read-is-accepted}
use Rattle.promises.proofs.Listings.{row_ends, FromGroup, from-group, forward-made, Free, object-row}
use Rattle.promises.proofs.MapBack.{to-forward}
use Rattle.promises.proofs.Writing.{nowhere-written}

-- a row's spec, and what is written under it
record RowOf (group : List Spec) (r : Row) : Type 0 where
  spec : Spec
  spec_at : nth group r.spec ≡ some spec
  written : (d : Text) → r.destination ≡ some d → WrittenTo spec d

-- the row of an object source
object_of : (group : List Spec) (n : ℕ × Spec) (r : Row) → In n (numbered group) → In r (object_rows n) → RowOf group r
unfolding object_rows
object_of group n r i h =
    let w = object-row n.0 (object_source n.1) (maps_to whole (map form_of n.1.destination)) h in
    record { spec = n.1; spec_at = ap (nth group) w.4 ∙ numbered-place group i; written = λ d e. put w.0 d w.1 (w.2 ∙ ap (λ (x : Option Text). mapped x) e) }
  where
    put : (id d : Text) → object_source n.1 ≡ some id → maps_to whole (map form_of n.1.destination) ≡ mapped (some d) → WrittenTo n.1 d
    put id d p m = by_object (record { item = 0; spec = 0; kind = 1; source = lower id; destination = some d }) (rw (p, m) here) refl

-- the row of a name
name_of : (group : List Spec) (names : List Text) (r : Row) → FromGroup forward_ends group names r → RowOf group r
name_of group names r f =
    record { spec = f.spec; spec_at = f.spec_at; written = λ d e. by_name f.name ((forward-made f.spec f.name (row_ends r) f.made).1 ∙ ap (λ (x : Option Text). mapped x) e) }

-- every row of a listing
row_of : (group : List Spec) (names : List Text) (r : Row) → In r (forward_rows group names) → RowOf group r
unfolding forward_rows
row_of group names r h = go (in-append (each (numbered group) object_rows) (keep-in (not_excluded group) _ h).0)
  where
    go : In r (each (numbered group) object_rows) ⊎ In r (group_rows forward_ends group names) → RowOf group r
    go (inl m) = let x = each_in object_rows (numbered group) m in object_of group x.0 r x.1 x.2
    go (inr m) = name_of group names r (from-group forward_ends group names r m)

-- a row of any listing is written under its spec
pub row_written : (group : List Spec) (names : List Text) (r : Row) (s : Spec) (d : Text) → In r (forward_rows group names) → nth group r.spec ≡ some s → r.destination ≡ some d → WrittenTo s d
row_written group names r s d h g e =
    let x = row_of group names r h in
    rw (one_spec (sym x.spec_at ∙ g)) at (x.written d e)
  where
    one_spec : {a b : Spec} → some a ≡ some b → a ≡ b
    one_spec q = cc

-- what is written is listed

-- a spec under which something is written is not negative
positive : (t : Text) (s : Spec) (d : Text) → read_spec 0 t ≡ accepted s → WrittenTo s d → is_negative s.mode ≡ false
positive t s d e w = go (is_negative s.mode) refl
  where
    go : (b : Bool) → is_negative s.mode ≡ b → b ≡ false
    go true n = absurd (nowhere-written s d ((read-is-accepted 0 t s e).negative-alone n) w)
    go false n = refl

-- a name is free of a spec that is not negative
is_free : (s : Spec) (n : Text) → is_negative s.mode ≡ false → Free (s ∷ []) n
unfolding excludes
is_free s n h = rw h

module _ (s : Spec) (d : Text) where
  -- some items have a row with the destination d
  abbrev Listed : Type 0
  Listed = (names : List Text) × (r : Row) × In r (forward_rows (s ∷ []) names) × (r.destination ≡ some d)

  name-listed : (n : Text) → is_negative s.mode ≡ false → forward s n ≡ mapped (some d) → Listed
  name-listed n h e = let t = to-forward (s ∷ []) (n ∷ []) s n (some d) here h here e (is_free s n h) in (n ∷ [], t.0, t.1, t.3)

  object-listed : (r : Row) → In r (object_rows (0, s)) → r.destination ≡ some d → Listed
  unfolding forward_rows not_excluded object_rows
  object-listed r h e =
      let k = (object-row 0 (object_source s) (maps_to whole (map form_of s.destination)) h).3 in
      ([], r, in-keep (not_excluded (s ∷ [])) (in_left (group_rows forward_ends (s ∷ []) []) (in_left [] h)) (rw k), e)

  -- the only spec of a group of one
  only : (k : ℕ) {x : Spec} → nth (s ∷ []) k ≡ some x → x ≡ s
  only zero e = cc
  only (suc k) e = absurd (let z : ◌≡◌ {A = ℕ} 0 1 = cc in omega arith)

  listed-written : Listed → WrittenTo s d
  listed-written l = let x = row_of (s ∷ []) l.0 l.1 l.2 in rw (only l.1.spec x.spec_at) at (x.written d l.3)

pub written-is-listed : WrittenIsListed
written-is-listed t s d e = (go, listed-written s d)
  where
    go : WrittenTo s d → Listed s d
    go (by_name n h) = name-listed s d n (positive t s d e (by_name n h)) h
    go (by_object r m h) = object-listed s d r m h
