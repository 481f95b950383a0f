-- The bytes of a listing are those that the loops write, spec by spec and item by item. Assumes nothing.
use mathlib.Core.Path.{◌≡◌, refl, ap, ◌∙◌}
use mathlib.Core.Bool.{Bool, true, false, not, cond}
use mathlib.Core.List.{List, [], ◌∷◌, ◌++◌}
use mathlib.Core.Option.{Option, none, some, map}
use Prim.Native.Nat.{ℕ, suc, ◌+◌}
use Rattle.meaning.specs.Bytes.{Text, any, keep, each, numbered_from, numbered}
use Rattle.meaning.specs.Spec.{Spec, is_negative}
use Rattle.meaning.specs.Rows.{Row, row_bytes, row_list_of}
use Rattle.meaning.specs.Match.{form_of, object_source, whole, Mapped, unmapped, mapped, maps_to}
use Rattle.meaning.specs.Listing.{Ends, name_row, name_rows, group_rows, object_row, object_rows, excludes, not_excluded, forward_rows, reverse_rows}
use Rattle.promises.proofs.Laws.{each_append}
use Rattle.match_row.specs.Pairs.{ends_in, row_unless, item_bytes, object_bytes}
use Rattle.match_group.specs.Listing.{each_from, listing_rows, items_from, bytes_of_spec, listing_bytes}

keep_append : {A : Type 0} (test : A → Bool) (l m : List A) → keep test (l ++ m) ≡ keep test l ++ keep test m
keep_append test [] m = refl
keep_append test (x ∷ l) m = rw (keep_append test l m) (go (test x))
  where
    go : (b : Bool) → cond b (x ∷ (keep test l ++ keep test m)) (keep test l ++ keep test m) ≡ cond b (x ∷ keep test l) (keep test l) ++ keep test m
    go true = refl
    go false = refl

-- the bytes of the rows of a list that pass a test
abbrev kept : (Row → Bool) → List Row → Text
kept test l = row_list_of (keep test l)

kept_append : (test : Row → Bool) (l m : List Row) → kept test (l ++ m) ≡ kept test l ++ kept test m
unfolding row_list_of
kept_append test l m = rw (keep_append test l m) (each_append (keep test l) (keep test m) row_bytes)

kept-none : (test : Row → Bool) → kept test [] ≡ []
unfolding row_list_of
kept-none test = refl

-- member by member
kept-each : {A : Type 0} (test : Row → Bool) (f : ℕ × A → List Row) (n : ℕ) (l : List A) → kept test (each (numbered_from n l) f) ≡ each_from (λ i x. kept test (f (i, x))) n l
unfolding row_list_of
kept-each test f n [] = refl
kept-each test f n (x ∷ l) = kept_append test (f (n, x)) (each (numbered_from (suc n) l) f) ∙ ap (λ t. kept test (f (n, x)) ++ t) (kept-each test f (suc n) l)

-- two ways to give the same
pub each_from-same : {A B : Type 0} (f g : ℕ → A → List B) → ((i : ℕ) (x : A) → f i x ≡ g i x) → (n : ℕ) (l : List A) → each_from f n l ≡ each_from g n l
each_from-same f g h n [] = refl
each_from-same f g h n (x ∷ l) = rw (h n x, each_from-same f g h (suc n) l)

-- rows whose sources a negative matches are gone
abbrev pub Gone : (Text → Bool) → List Spec → Type 0
Gone gone group = (name : Text) → gone name ≡ any (excludes name) group

-- the row of one item
item-kept-is : (reverse : Bool) (gone : Text → Bool) (group : List Spec) → Gone gone group → (i : ℕ) (s : Spec) (j : ℕ) (name : Text) → kept (not_excluded group) (name_row i j (ends_in reverse s name)) ≡ item_bytes reverse gone i j name s
unfolding item_bytes not_excluded row_list_of
item-kept-is reverse gone group h i s j name = go (ends_in reverse s name)
  where
    choice : (r : Row) (b : Bool) → each (cond (not b) (r ∷ []) []) row_bytes ≡ cond b [] (row_bytes r) ++ []
    choice r true = refl
    choice r false = refl

    go : (e : Option Ends) → kept (not_excluded group) (name_row i j e) ≡ each (name_row i j e) (row_unless gone)
    go none = refl
    go (some e) = rw (h e.source) (choice (record { item = suc j; spec = i; kind = 0; source = e.source; destination = e.destination }) (any (excludes e.source) group))

-- the rows of one spec
spec-kept : (reverse : Bool) (gone : Text → Bool) (group : List Spec) → Gone gone group → (names : List Text) (i : ℕ) (s : Spec) → kept (not_excluded group) (name_rows (ends_in reverse) names (i, s)) ≡ bytes_of_spec reverse gone names i s
unfolding name_rows bytes_of_spec
spec-kept reverse gone group h names i s = go (is_negative s.mode)
  where
    go : (b : Bool) → kept (not_excluded group) (cond b [] (each (numbered names) (λ m. name_row i m.0 (ends_in reverse s m.1)))) ≡ cond b [] (items_from (item_bytes reverse gone i) 0 names s)
    go true = kept-none (not_excluded group)
    go false =
        kept-each (not_excluded group) (λ m. name_row i m.0 (ends_in reverse s m.1)) 0 names
        ∙ each_from-same (λ j name. kept (not_excluded group) (name_row i j (ends_in reverse s name))) (λ j name. item_bytes reverse gone i j name s) (λ j name. item-kept-is reverse gone group h i s j name) 0 names

-- the rows of all specs
group-kept : (reverse : Bool) (gone : Text → Bool) (group : List Spec) → Gone gone group → (names : List Text) → kept (not_excluded group) (group_rows (ends_in reverse) group names) ≡ each_from (bytes_of_spec reverse gone names) 0 group
group-kept reverse gone group h names =
    kept-each (not_excluded group) (name_rows (ends_in reverse) names) 0 group
    ∙ each_from-same (λ i s. kept (not_excluded group) (name_rows (ends_in reverse) names (i, s))) (bytes_of_spec reverse gone names) (spec-kept reverse gone group h names) 0 group

-- rows of source kind 1 stay
object-stays : (group : List Spec) (i : ℕ) (s : Spec) → kept (not_excluded group) (object_rows (i, s)) ≡ object_bytes i s
unfolding object_rows object_bytes not_excluded row_list_of
object-stays group i s = go (object_source s) (maps_to whole (map form_of s.destination))
  where
    go : (o : Option Text) (m : Mapped) → kept (not_excluded group) (object_row i o m) ≡ row_list_of (object_row i o m)
    go none m = refl
    go (some t) unmapped = refl
    go (some t) (mapped dst) = refl

objects-kept : (group : List Spec) → kept (not_excluded group) (each (numbered group) object_rows) ≡ each_from object_bytes 0 group
objects-kept group =
    kept-each (not_excluded group) object_rows 0 group
    ∙ each_from-same (λ i s. kept (not_excluded group) (object_rows (i, s))) object_bytes (object-stays group) 0 group

-- the bytes of a listing's rows are what the loops write
pub listing-bytes : (reverse : Bool) (gone : Text → Bool) (group : List Spec) → Gone gone group → (names : List Text) → row_list_of (listing_rows reverse group names) ≡ listing_bytes reverse gone group names
unfolding reverse_rows forward_rows
listing-bytes true gone group h names = group-kept true gone group h names
listing-bytes false gone group h names =
    kept_append (not_excluded group) (each (numbered group) object_rows) (group_rows (ends_in false) group names)
    ∙ rw (objects-kept group, group-kept false gone group h names)
