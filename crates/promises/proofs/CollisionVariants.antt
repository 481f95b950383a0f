-- The false variants of document 02, W1, are refuted, each by a small example. Assumes nothing.
use Prim.Native.Nat.{ℕ, suc, ◌-◌, ◌/◌, ◌≤◌}
use native.Mathlib.Omega.{arith}
use mathlib.Core.Path.{◌≡◌, refl, sym, ap, ◌∙◌}
use mathlib.Core.Bool.{Bool, true, false, false≢true}
use mathlib.Core.List.{[], ◌∷◌, ◌++◌}
use mathlib.Core.Option.{Option, none, some}
use lib.ListN.{length, replicate, length-append}
use Rattle.meaning.specs.Bytes.{Text, bytes, byte, same, here, there}
use Rattle.meaning.specs.Limits.{name_bytes, id_digits}
use Rattle.meaning.specs.Spec.{Answer, accepted, refused, Normal, Spec}
use Rattle.meaning.specs.Rows.{Row}
use Rattle.meaning.specs.Prefix.{before_star}
use Rattle.meaning.specs.Match.{after_star, maps_to, whole_if, literal, pattern, mapped, unmapped, forward}
use Rattle.meaning.specs.Collide.{collide, collide_bytes}
use Rattle.meaning.specs.Everything.{everything}
use Rattle.promises.specs.Terms.{TwoSpecs, MaybeCall}
use Rattle.promises.specs.Collisions.{WrittenTo, by_name, by_object}
use Rattle.promises.specs.CollisionVariants.{YesByTwoNames, YesByNames, YesByShortNames, YesByGoodNames, YesOfAnySpecs, YesIsNotEmpty, NoByLength, LiteralsAsSpelt, OverlapCounts, StartsAreEnough, NoInReverseListing, EitherOrderThoughRefused, FalseCollisionVariants}
use Rattle.promises.proofs.Laws.{same-is}
use Rattle.promises.proofs.Buffers.{maybe-written}
use Rattle.promises.proofs.Writing.{two_sided, pattern-name, literal-written}

-- a yes is no no
yes-no : {d : Text} → accepted (some d) ≡ accepted none → ⊥
yes-no e = let z : ◌≡◌ {A = ℕ} 0 1 = cc in omega arith

-- what is not mapped is not mapped anywhere
not-mapped : {o : Option Text} → unmapped ≡ mapped o → ⊥
not-mapped e = let z : ◌≡◌ {A = ℕ} 0 1 = cc in omega arith

-- `refs/a:refs/x` twice: one name under either

only-name : (n d : Text) → forward (two_sided Normal (bytes "refs/a") (bytes "refs/x")) n ≡ mapped (some d) → n ≡ bytes "refs/a"
unfolding everything
only-name n d e = go (same (bytes "refs/a") n) refl e
  where
    go : (b : Bool) → same (bytes "refs/a") n ≡ b → maps_to (whole_if b) (some (literal (bytes "refs/x"))) ≡ mapped (some d) → n ≡ bytes "refs/a"
    go true q w = sym (same-is (bytes "refs/a") n q)
    go false q w = absurd (not-mapped w)

two-names : YesByTwoNames → ⊥
unfolding everything
two-names f =
    let s = two_sided Normal (bytes "refs/a") (bytes "refs/x") in
    let y = f (bytes "refs/a:refs/x") (bytes "refs/a:refs/x") s s (bytes "refs/x") (record { first = refl; second = refl }) refl in
    y.4 (only-name y.0 (bytes "refs/x") y.2 ∙ sym (only-name y.1 (bytes "refs/x") y.3))

-- an object source and the source `b`, both onto `x`
by_names : YesByNames → ⊥
unfolding everything
by_names f =
    let id = replicate id_digits (byte "a") in
    let y = f (id ++ bytes ":x") (bytes "b:x") (two_sided Normal id (bytes "x")) (two_sided Normal (bytes "b") (bytes "x")) (bytes "refs/heads/x") (record { first = refl; second = refl }) refl in
    not-mapped y.1

-- a source of half a name's bytes before its star, onto `*`; and `*` onto the other half and one byte before a star: the first's name
-- has one byte too many at least

abbrev half : ℕ
half = name_bytes / 2

abbrev other_half : ℕ
other_half = suc (name_bytes - half)

abbrev long_source : Text
long_source = replicate half (byte "x") ++ bytes "*"

abbrev long_destination : Text
long_destination = replicate other_half (byte "y") ++ bytes "*"

long-read : TwoSpecs 0 (long_source ++ bytes ":*") (bytes "*:" ++ long_destination) (two_sided Normal long_source (bytes "*")) (two_sided Normal (bytes "*") long_destination)
unfolding everything
long-read = record { first = refl; second = refl }

long-yes : collide (long_source ++ bytes ":*") (bytes "*:" ++ long_destination) ≡ accepted (some (replicate other_half (byte "y")))
unfolding everything
long-yes = refl

-- a name with the start a, whose capture has the start b
long-name : (a b c k x y e n : Text) → length a ≡ half → length b ≡ other_half → n ≡ a ++ (c ++ x) → e ≡ c ++ [] → e ≡ b ++ (k ++ y) → length n ≤ name_bytes → ⊥
long-name a b c k x y e n la lb p q r h =
    omega (arith, ap length p, ap length q, ap length r, length-append a (c ++ x), length-append c x, length-append c [], length-append b (k ++ y))

short-names : YesByShortNames → ⊥
unfolding everything
short-names f =
    let y = f (long_source ++ bytes ":*") (bytes "*:" ++ long_destination) (two_sided Normal long_source (bytes "*")) (two_sided Normal (bytes "*") long_destination) (replicate other_half (byte "y")) long-read long-yes in
    let p = pattern-name Normal refl long_source (bytes "*") refl refl y.0 y.1 y.5 in
    let q = pattern-name Normal refl (bytes "*") long_destination refl refl y.0 y.2 y.6 in
    long-name (before_star long_source) (before_star long_destination) p.0 q.0 (after_star long_source) (after_star long_destination) y.0 y.1 refl refl p.1 p.2 q.2 y.3

-- `a.*` onto `refs/heads/x*`, and `b` onto `refs/heads/x.y`: the first's one name is `a..y`
good-names : YesByGoodNames → ⊥
unfolding everything
good-names f =
    let y = f (bytes "a.*:refs/heads/x*") (bytes "b:refs/heads/x.y") (two_sided Normal (bytes "a.*") (bytes "refs/heads/x*")) (two_sided Normal (bytes "b") (bytes "refs/heads/x.y")) (bytes "refs/heads/x.y") (record { first = refl; second = refl }) refl in
    let p = pattern-name Normal refl (bytes "a.*") (bytes "refs/heads/x*") refl refl y.0 y.1 y.3 in
    let q : y.0 ≡ bytes "refs/heads/x.y" = literal-written Normal refl (bytes "b") (bytes "refs/heads/x.y") refl refl y.0 y.4 in
    let c : p.0 ++ [] ≡ bytes ".y" = drop-start (p.0 ++ []) (sym p.2 ∙ q) in
    let n : y.1 ≡ bytes "a..y" = p.1 ∙ ap (λ (k : Text). bytes "a." ++ k) c in
    false≢true (rw n at y.2)
  where
    drop-start : (k : Text) → bytes "refs/heads/x" ++ k ≡ bytes "refs/heads/x.y" → k ≡ bytes ".y"
    drop-start k e = cc

-- a source without a star and a destination with one, which no accepted spec has
any-specs : YesOfAnySpecs → ⊥
unfolding everything
any-specs f = go (f (two_sided Normal (bytes "refs/a") (bytes "b*")) (two_sided Normal (bytes "refs/a") (bytes "b*")) (bytes "b") refl)
  where
    go : WrittenTo (two_sided Normal (bytes "refs/a") (bytes "b*")) (bytes "b") → ⊥
    go (by_name n e) = nothing (same (bytes "refs/a") n) e
      where
        nothing : (b : Bool) → maps_to (whole_if b) (some (pattern (bytes "b") [])) ≡ mapped (some (bytes "b")) → ⊥
        nothing true w = not-mapped w
        nothing false w = not-mapped w
    go (by_object r h e) = elim h [ ]

-- `*:*` twice
not-empty : YesIsNotEmpty → ⊥
unfolding everything
not-empty f = f (bytes "*:*") (bytes "*:*") [] refl refl

-- a call on it, with a buffer of no bytes
abbrev empty_yes : MaybeCall
empty_yes = record { before = []; after = []; refusal = 0; record_number = 0; mark = 1; size = 0 }

by_length : NoByLength → ⊥
unfolding everything
by_length f =
    yes-no (f (bytes "*:*") (bytes "*:*") empty_yes (maybe-written (collide_bytes (bytes "*:*") (bytes "*:*")) [] [] [] 0 0 1 0 refl (omega arith) refl refl refl refl refl) refl refl)

-- `x` and `refs/heads/x`
as-spelt : LiteralsAsSpelt → ⊥
unfolding everything
as-spelt f =
    yes-no (f (bytes "a:x") (bytes "b:refs/heads/x") (two_sided Normal (bytes "a") (bytes "x")) (two_sided Normal (bytes "b") (bytes "refs/heads/x")) (bytes "x") (bytes "refs/heads/x") (record { first = refl; second = refl }) refl refl refl refl differ)
  where
    differ : bytes "x" ≡ bytes "refs/heads/x" → ⊥
    differ e = let z : ◌≡◌ {A = ℕ} 120 114 = cc in omega arith

-- `refs/heads/a` in `refs/heads/a*a`
overlap : OverlapCounts → ⊥
unfolding everything
overlap f =
    let e = f (bytes "b:a") (bytes "*:refs/heads/a*a") (two_sided Normal (bytes "b") (bytes "a")) (two_sided Normal (bytes "*") (bytes "refs/heads/a*a")) (bytes "a") (bytes "refs/heads/a*a") (bytes "refs/heads/a") (bytes "a") (record { first = refl; second = refl }) refl refl refl refl refl in
    yes-no (sym e)

-- `a*b` and `a*c`
starts-enough : StartsAreEnough → ⊥
unfolding everything
starts-enough f =
    f (bytes "*:a*b") (bytes "*:a*c") (two_sided Normal (bytes "*") (bytes "a*b")) (two_sided Normal (bytes "*") (bytes "a*c")) (bytes "a*b") (bytes "a*c") (bytes "a") (bytes "b") (bytes "a") (bytes "c") (record { first = refl; second = refl }) refl refl refl refl refl refl

-- `refs/a:x` and `refs/b*:x*` on the item `x`: in reverse a literal is taken as it is spelt

abbrev literal_onto : Spec
literal_onto = two_sided Normal (bytes "refs/a") (bytes "x")

abbrev pattern_onto : Spec
pattern_onto = two_sided Normal (bytes "refs/b*") (bytes "x*")

abbrev onto_x : ℕ → Text → Row
onto_x i source = record { item = 1; spec = i; kind = 0; source = source; destination = some (bytes "x") }

in-reverse : NoInReverseListing → ⊥
unfolding everything
in-reverse f =
    f (bytes "refs/a:x") (bytes "refs/b*:x*") literal_onto pattern_onto (record { first = refl; second = refl }) refl (literal_onto ∷ pattern_onto ∷ []) (bytes "x" ∷ []) (onto_x 0 (bytes "refs/a")) (onto_x 1 (bytes "refs/b")) (bytes "x") here (there here) refl refl refl refl

-- `^` and `a:@`, each with its own refusal
refused-order : EitherOrderThoughRefused → ⊥
unfolding everything
refused-order f = two-numbers (f (bytes "^") (bytes "a:@"))
  where
    two-numbers : ◌≡◌ {A = Answer (Option Text)} (refused 8 (some 1)) (refused 10 (some 1)) → ⊥
    two-numbers e = let z : ◌≡◌ {A = ℕ} 8 10 = cc in omega arith

-- none of them holds
pub false-collision-variants : FalseCollisionVariants
false-collision-variants =
    record {
      yes-by-two-names = two-names;
      yes-by-names = by_names;
      yes-by-short-names = short-names;
      yes-by-good-names = good-names;
      yes-of-any-specs = any-specs;
      yes-is-not-empty = not-empty;
      no-by-length = by_length;
      literals-as-spelt = as-spelt;
      overlap-counts = overlap;
      starts-are-enough = starts-enough;
      no-in-reverse-listing = in-reverse;
      either-order-though-refused = refused-order;
    }
