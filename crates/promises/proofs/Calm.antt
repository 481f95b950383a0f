-- A group and the same without the `+` of its fetch-only specs have the same rows. Assumes nothing.
use mathlib.Core.Path.{◌≡◌, refl, ap}
use mathlib.Core.Bool.{Bool}
use mathlib.Core.List.{List, [], ◌∷◌, ◌++◌, map}
use mathlib.Core.Option.{Option, none, some}
use Prim.Native.Nat.{ℕ, suc}
use lib.ListN.{length}
use Rattle.meaning.specs.Bytes.{Text, any, keep, each, numbered_from, numbered}
use Rattle.meaning.specs.Spec.{Mode, Normal, Force, Negative, Spec, is_negative}
use Rattle.meaning.specs.Rows.{Row}
use Rattle.meaning.specs.Match.{object_source, forward, reverse}
use Rattle.meaning.specs.Listing.{Ends, forward_ends, reverse_ends, name_row, name_rows, group_rows, object_rows, excludes, not_excluded, forward_rows, reverse_rows}

-- the mode without the `+` of a fetch-only spec
abbrev pub calm_mode : Mode → Option Text → Mode
calm_mode Normal d = Normal
calm_mode Negative d = Negative
calm_mode Force none = Normal
calm_mode Force (some d) = Force

-- the spec of a canonical text: fetch-only has lost its `+`
unfoldable pub calm : Spec → Spec
calm s = record { mode = calm_mode s.mode s.destination; source = s.source; destination = s.destination }

-- it is as negative as it was
pub calm-negative : (m : Mode) (d : Option Text) → is_negative (calm_mode m d) ≡ is_negative m
calm-negative Normal d = refl
calm-negative Negative d = refl
calm-negative Force none = refl
calm-negative Force (some d) = refl

-- the same of the spec
calm-mode : (s : Spec) → is_negative (calm s).mode ≡ is_negative s.mode
unfolding calm
calm-mode s = calm-negative s.mode s.destination

-- it has no more to lose
calm-mode-twice : (m : Mode) (d : Option Text) → calm_mode (calm_mode m d) d ≡ calm_mode m d
calm-mode-twice Normal d = refl
calm-mode-twice Negative d = refl
calm-mode-twice Force none = refl
calm-mode-twice Force (some d) = refl

calm-twice : (s : Spec) → calm (calm s) ≡ calm s
unfolding calm
calm-twice s = rw (calm-mode-twice s.mode s.destination)

pub calm-all-twice : (group : List Spec) → map calm (map calm group) ≡ map calm group
calm-all-twice [] = refl
calm-all-twice (s ∷ group) = rw (calm-twice s, calm-all-twice group)

-- a name is mapped alike
calm-forward : (s : Spec) (name : Text) → forward (calm s) name ≡ forward s name
unfolding forward calm
calm-forward s name = rw (calm-negative s.mode s.destination)

-- and excluded alike
calm-excludes : (name : Text) (s : Spec) → excludes name (calm s) ≡ excludes name s
unfolding excludes
calm-excludes name s = rw (calm-forward s name, calm-mode s)

-- a test of images
any-map : {A B : Type 0} (f : A → B) (test : B → Bool) (test' : A → Bool) → ((x : A) → test (f x) ≡ test' x) → (l : List A) → any test (map f l) ≡ any test' l
any-map f test test' h [] = refl
any-map f test test' h (x ∷ l) = rw (h x, any-map f test test' h l)

-- so the same rows are excluded
calm-excluded : (group : List Spec) (r : Row) → not_excluded (map calm group) r ≡ not_excluded group r
unfolding not_excluded
calm-excluded group r = rw (any-map calm (excludes r.source) (excludes r.source) (calm-excludes r.source) group)

-- tests that agree keep the same
keep_same : {A : Type 0} (f g : A → Bool) → ((x : A) → f x ≡ g x) → (l : List A) → keep f l ≡ keep g l
keep_same f g h [] = refl
keep_same f g h (x ∷ l) = rw (h x, keep_same f g h l)

-- numbered images give what the members gave
each-numbered : {A B C : Type 0} (f : A → B) (w : ℕ × B → List C) (w' : ℕ × A → List C) → ((i : ℕ) (x : A) → w (i, f x) ≡ w' (i, x)) → (i : ℕ) (l : List A) → each (numbered_from i (map f l)) w ≡ each (numbered_from i l) w'
each-numbered f w w' h i [] = refl
each-numbered f w w' h i (x ∷ l) = rw (h i x, each-numbered f w w' h (suc i) l)

-- functions that agree give the same
each_same : {A C : Type 0} (w w' : A → List C) → ((x : A) → w x ≡ w' x) → (l : List A) → each l w ≡ each l w'
each_same w w' h [] = refl
each_same w w' h (x ∷ l) = rw (h x, each_same w w' h l)

-- an object row does not change
calm-objects : (i : ℕ) (s : Spec) → object_rows (i, calm s) ≡ object_rows (i, s)
unfolding object_rows object_source calm
calm-objects i s = rw (calm-negative s.mode s.destination)

-- nor do the ends of a row, forward
calm-forward-ends : (s : Spec) (name : Text) → forward_ends (calm s) name ≡ forward_ends s name
unfolding forward_ends
calm-forward-ends s name = rw (calm-forward s name)

-- or in reverse
calm-reverse-ends : (s : Spec) (name : Text) → reverse_ends (calm s) name ≡ reverse_ends s name
unfolding reverse_ends reverse calm
calm-reverse-ends s name = refl

-- so a spec's rows do not change
calm-names : (make : Spec → Text → Option Ends) → ((s : Spec) (name : Text) → make (calm s) name ≡ make s name) → (names : List Text) (i : ℕ) (s : Spec) → name_rows make names (i, calm s) ≡ name_rows make names (i, s)
unfolding name_rows
calm-names make h names i s =
    rw (calm-mode s, each_same (λ (m : ℕ × Text). name_row i m.0 (make (calm s) m.1)) (λ m. name_row i m.0 (make s m.1)) (λ m. rw (h s m.1)) (numbered names))

-- nor do a group's
calm-group : (make : Spec → Text → Option Ends) → ((s : Spec) (name : Text) → make (calm s) name ≡ make s name) → (group : List Spec) (names : List Text) → group_rows make (map calm group) names ≡ group_rows make group names
calm-group make h group names = each-numbered calm (name_rows make names) (name_rows make names) (calm-names make h names) 0 group

-- the forward rows of the calm group
pub calm-forward-rows : (group : List Spec) (names : List Text) → forward_rows (map calm group) names ≡ forward_rows group names
unfolding forward_rows
calm-forward-rows group names =
    rw (each-numbered calm object_rows object_rows calm-objects 0 group, calm-group forward_ends calm-forward-ends group names)
    (keep_same (not_excluded (map calm group)) (not_excluded group) (calm-excluded group) (each (numbered group) object_rows ++ group_rows forward_ends group names))

-- and its reverse rows
pub calm-reverse-rows : (group : List Spec) (names : List Text) → reverse_rows (map calm group) names ≡ reverse_rows group names
unfolding reverse_rows
calm-reverse-rows group names =
    rw (calm-group reverse_ends calm-reverse-ends group names) (keep_same (not_excluded (map calm group)) (not_excluded group) (calm-excluded group) (group_rows reverse_ends group names))

-- and as many specs
pub map-length : (group : List Spec) → length (map calm group) ≡ length group
map-length [] = refl
map-length (s ∷ group) = ap suc (map-length group)
