-- The false variants of demand 3 are refuted, each by the smallest example found. Assumes nothing.
use Prim.Native.Nat.{ℕ, zero, suc, ◌+◌, ◌-◌, ◌*◌, ◌/◌, ◌≤◌, ◌<◌}
use native.Mathlib.Omega.{arith}
use native.Mathlib.Nat.{zero-add}
use mathlib.Core.Path.{◌≡◌, refl, sym, ap, ◌∙◌}
use mathlib.Core.Logic.{◌⊎◌, inl, inr}
use mathlib.Core.Bool.{Bool, true, false, false≢true}
use mathlib.Core.List.{List, [], ◌∷◌, ◌++◌, map, append-nil}
use mathlib.Core.Option.{Option, none, some}
use lib.Dec.{eqb, lit≤, lit<}
use lib.ListN.{length, replicate, length-append, length-replicate}
use Rattle.meaning.specs.Bytes.{Text, bytes, any, keep, each, numbered_from, In, here, there}
use Rattle.meaning.specs.Limits.{spec_bytes, name_bytes, spec_list_bytes, row_list_bytes, spec_count, largest_number}
use Rattle.meaning.specs.Spec.{Answer, accepted, refused, Mode, Normal, Force, Negative, Spec, is_force, read_spec}
use Rattle.meaning.specs.Buffers.{Outputs}
use Rattle.meaning.specs.Number.{number_bytes, text_bytes, record_bytes}
use Rattle.meaning.specs.Lists.{read_specs, read_items}
use Rattle.meaning.specs.Rows.{Row, row_bytes, row_list_of}
use Rattle.meaning.specs.Match.{capture, mapped, forward}
use Rattle.meaning.specs.Listing.{forward_ends, name_row, name_rows, object_rows, excludes, not_excluded, forward_rows}
use Rattle.meaning.specs.Everything.{everything}
use Rattle.promises.specs.Terms.{reversible, text_fits, no_plus, canonical_list}
use Rattle.promises.specs.Variants.{ConflictsOfAnySpecs, ConflictsOfAnyRows, ConflictsByBytes, ConflictsByDestination, ConflictsOfKeptRows, ReadBackOfAnySpecs, ReadBackOfAnyNames, ReadBackOfAnySize, ReadBackUnderNone, KeptMapBackWhere, any_spec, one_sided, MapBackInConflict, MapBackOfAnyRow, MapBackOfAnyDestination, MapBackWithoutIt, MapBackToAnyName, CanonicalOfAnySpecs, CanonicalOfAnyLength, CanonicalOfAnyList, CanonicalOfAnySource, CanonicalIsTheSame, FalseVariants, PremisesMet}
use Rattle.promises.proofs.Laws.{or_right, in-none, in-cons, same-eq, each_append}
use Rattle.promises.proofs.Captures.{capture-fill}
use Rattle.promises.proofs.Members.{specs-written, specs-long, rows_long}
use Rattle.promises.proofs.ReadBack.{row-length}
use Rattle.promises.proofs.Refusals.{refused-accepted}

-- a spec, written short
abbrev spec : Mode → Text → Option Text → Spec
spec m s d = record { mode = m; source = some s; destination = d }

-- a row of a name, written short
abbrev row : ℕ → ℕ → Text → Text → Row
row i s a b = record { item = i; spec = s; kind = 0; source = a; destination = some b }

-- Conflicts, exactly

-- `^` is refused
any-specs : ConflictsOfAnySpecs → ⊥
unfolding everything
any-specs f = refused-accepted (f (1 ∷ bytes "^") [] [] [] refl).1

-- a row list of one unfinished number is refused
any-rows : ConflictsOfAnyRows → ⊥
unfolding everything
any-rows f = refused-accepted (f [] (128 ∷ []) [] refl).1

-- a name and an object with the same bytes
abbrev twins : List Row
twins = record { item = 0; spec = 0; kind = 1; source = bytes "x"; destination = some (bytes "d") } ∷ row 1 0 (bytes "x") (bytes "d") ∷ []

twin-source : {r : Row} → In r twins → r.source ≡ bytes "x"
twin-source {r} m = first (in-cons m)
  where
    second : (r ≡ row 1 0 (bytes "x") (bytes "d")) ⊎ In r [] → r.source ≡ bytes "x"
    second (inl e) = ap (λ (q : Row). q.source) e
    second (inr n) = elim n [ ]

    first : (r ≡ record { item = 0; spec = 0; kind = 1; source = bytes "x"; destination = some (bytes "d") }) ⊎ In r (row 1 0 (bytes "x") (bytes "d") ∷ []) → r.source ≡ bytes "x"
    first (inl e) = ap (λ (q : Row). q.source) e
    first (inr n) = second (in-cons n)

by_bytes : ConflictsByBytes → ⊥
unfolding everything
by_bytes f =
    let t = f twins (bytes "d") (_, here, refl) in
    t.4 (twin-source t.2 ∙ sym (twin-source t.3))

-- one row twice
by-destination : ConflictsByDestination → ⊥
unfolding everything
by-destination f = f (row 1 0 (bytes "x") (bytes "d")) (row 1 0 (bytes "x") (bytes "d")) (bytes "d") refl refl

-- two sources on the partial destination `d`
of-kept : ConflictsOfKeptRows → ⊥
unfolding everything
of-kept f = in-none (f (row 1 0 (bytes "x") (bytes "d") ∷ row 2 0 (bytes "y") (bytes "d") ∷ []) (bytes "d") (_, here, refl)).first-in

-- Listings are row lists

-- `^` is refused
back-any-specs : ReadBackOfAnySpecs → ⊥
unfolding everything
back-any-specs f = refused-accepted (f (1 ∷ bytes "^") [] [] [] refl (lit≤ tt))

-- so many items of no bytes, then `a`: its number has a group too many
abbrev far : ℕ → List Text
far k = replicate k [] ++ (bytes "a" ∷ [])

-- what gives nothing for items of no bytes gives what it gives for `a`
skip : (f : ℕ × Text → List Row) → ((i : ℕ) → f (i, []) ≡ []) → (k i : ℕ) → each (numbered_from i (far k)) f ≡ f (i + k, bytes "a") ++ []
skip f h zero i = let n : i + 0 ≡ i = omega arith in rw n
skip f h (suc k) i = let n : i + suc k ≡ suc i + k = omega arith in rw (h i, n) (skip f h k (suc i))

far-rows : (k : ℕ) → forward_rows (spec Normal (bytes "a") none ∷ []) (far k) ≡ record { item = suc k; spec = 0; kind = 0; source = bytes "a"; destination = none } ∷ []
unfolding everything
far-rows k = rw (skip (λ m. name_row 0 m.0 (forward_ends (spec Normal (bytes "a") none) m.1)) (λ i. refl) k 0, zero-add k)

back-any-names : (k : ℕ) → k ≡ largest_number → ReadBackOfAnyNames → ⊥
unfolding everything
back-any-names k e f =
    let q = f (1 ∷ bytes "a") (spec Normal (bytes "a") none ∷ []) (far k) refl (rw (far-rows k, e) (lit≤ tt)) in
    let p = rw (far-rows k, e) at q in
    refused-accepted p

-- many specs `*:*` on long items: each has a row with the name twice

abbrev all : Spec
all = spec Normal (bytes "*") (some (bytes "*"))

all-capture : (t : Text) → capture [] [] t ≡ some t
all-capture t = rw (append-nil t) at (capture-fill [] [] t)

all-forward : (t : Text) → forward all t ≡ mapped (some t)
unfolding everything
all-forward t = let c : capture [] [] t ≡ some t = all-capture t in rw c (rw (append-nil t))

-- the rows of spec i, from item j on
twice_rows : ℕ → ℕ → List Text → List Row
twice_rows i j [] = []
twice_rows i j (t ∷ names) = row (suc j) i t t ∷ twice_rows i (suc j) names

-- the rows of k specs from spec i on
many_rows : ℕ → ℕ → List Text → List Row
many_rows i zero names = []
many_rows i (suc k) names = twice_rows i 0 names ++ many_rows (suc i) k names

no-objects : (k i : ℕ) → each (numbered_from i (replicate k all)) object_rows ≡ []
unfolding everything
no-objects zero i = refl
no-objects (suc k) i = no-objects k (suc i)

twice-names : (i j : ℕ) (names : List Text) → each (numbered_from j names) (λ m. name_row i m.0 (forward_ends all m.1)) ≡ twice_rows i j names
unfolding twice_rows forward_ends
twice-names i j [] = refl
twice-names i j (t ∷ names) = rw (all-forward t, twice-names i (suc j) names)

all-names : (names : List Text) (k i : ℕ) → each (numbered_from i (replicate k all)) (name_rows forward_ends names) ≡ many_rows i k names
unfolding many_rows name_rows
all-names names zero i = refl
all-names names (suc k) i = rw (twice-names i 0 names, all-names names k (suc i))

none-excluded : (name : Text) (k : ℕ) → any (excludes name) (replicate k all) ≡ false
unfolding excludes
none-excluded name zero = refl
none-excluded name (suc k) = none-excluded name k

keep-many : (k : ℕ) (rows : List Row) → keep (not_excluded (replicate k all)) rows ≡ rows
unfolding not_excluded
keep-many k [] = refl
keep-many k (r ∷ rows) = rw (none-excluded r.source k, or_right (eqb r.kind 1) true refl, keep-many k rows)

many-rows : (names : List Text) (k : ℕ) → forward_rows (replicate k all) names ≡ many_rows 0 k names
unfolding forward_rows
many-rows names k = rw (no-objects k 0, all-names names k 0) (keep-many k (many_rows 0 k names))

twice-long : (t : Text) → length t ≡ name_bytes → (m i j : ℕ) → m * (name_bytes + name_bytes) ≤ length (row_list_of (twice_rows i j (replicate m t)))
unfolding twice_rows row_list_of
twice-long t h zero i j = omega arith
twice-long t h (suc m) i j =
    let a = length-append (row_bytes (row (suc j) i t t)) (each (twice_rows i (suc j) (replicate m t)) row_bytes) in
    let b = row-length (row (suc j) i t t) in
    let c = length-append (number_bytes (suc (length t))) t in
    let d = twice-long t h m i (suc j) in
    omega arith

-- so many long names are enough, with a list of specs
abbrev enough : ℕ
enough = row_list_bytes / (spec_count * (name_bytes + name_bytes)) + 1

abbrev long_names : List Text
long_names = replicate enough (replicate name_bytes 97)

many-long : (k i : ℕ) → k * (enough * (name_bytes + name_bytes)) ≤ length (row_list_of (many_rows i k long_names))
unfolding many_rows row_list_of
many-long zero i = omega arith
many-long (suc k) i =
    let a = each_append (twice_rows i 0 long_names) (many_rows (suc i) k long_names) row_bytes in
    let b = length-append (each (twice_rows i 0 long_names) row_bytes) (each (many_rows (suc i) k long_names) row_bytes) in
    let c = twice-long (replicate name_bytes 97) (length-replicate {A = ℕ} name_bytes 97) enough i 0 in
    let d = many-long k (suc i) in
    omega (arith, ap length a)

long-read : read_items (record_bytes long_names) ≡ accepted long_names
unfolding everything
long-read = refl

back-any-size : (k : ℕ) → k ≡ spec_count → ReadBackOfAnySize → ⊥
unfolding everything
back-any-size k e f =
    let q = f (record_bytes (replicate spec_count (bytes "*:*"))) (record_bytes long_names) (replicate k all) long_names (rw e) long-read in
    let s : row_list_bytes < length (row_list_of (forward_rows (replicate k all) long_names)) = rw (many-rows long_names k) (omega (arith, many-long k 0)) in
    refused-accepted (sym (rows_long (length (replicate k all)) (row_list_of (forward_rows (replicate k all) long_names)) s) ∙ q)

-- spec 0 is not among no specs
back-under-none : ReadBackUnderNone → ⊥
unfolding everything
back-under-none f = refused-accepted (f (1 ∷ bytes "a") (1 ∷ bytes "a") (spec Normal (bytes "a") none ∷ []) (bytes "a" ∷ []) refl refl (lit≤ tt))

-- Kept destinations map back

-- `a:b` maps `refs/heads/a` to `refs/heads/b`, which it does not map back
back-any-spec : KeptMapBackWhere any_spec → ⊥
unfolding everything
back-any-spec f =
    let r = row 1 0 (bytes "refs/heads/a") (bytes "refs/heads/b") in
    in-none ((f (spec Normal (bytes "a") (some (bytes "b")) ∷ []) (bytes "refs/heads/a" ∷ []) (bytes "refs/heads/b" ∷ []) (r ∷ []) [] r (bytes "refs/heads/b") (bytes "refs/heads/a") refl refl here refl here here).1 refl).row_in

-- nor does `refs/a:b`
back-one-sided : KeptMapBackWhere one_sided → ⊥
unfolding everything one_sided
back-one-sided f =
    let r = row 1 0 (bytes "refs/a") (bytes "refs/heads/b") in
    in-none ((f (spec Normal (bytes "refs/a") (some (bytes "b")) ∷ []) (bytes "refs/a" ∷ []) (bytes "refs/heads/b" ∷ []) (r ∷ []) [] r (bytes "refs/heads/b") (bytes "refs/a") refl refl here refl here here).1 refl).row_in

-- `refs/x:refs/d`, and the same with `refs/y:refs/d`
abbrev one_on_d : List Spec
one_on_d = spec Normal (bytes "refs/x") (some (bytes "refs/d")) ∷ []

abbrev two_on_d : List Spec
two_on_d = spec Normal (bytes "refs/x") (some (bytes "refs/d")) ∷ spec Normal (bytes "refs/y") (some (bytes "refs/d")) ∷ []

abbrev x_on_d : Row
x_on_d = row 1 0 (bytes "refs/x") (bytes "refs/d")

y-is-not-x : bytes "refs/y" ≡ bytes "refs/x" → ⊥
y-is-not-x e = false≢true (same-eq e)

-- both names are forward items: a conflict, and `refs/y` stands as a source too
back-in-conflict : MapBackInConflict → ⊥
unfolding everything reversible
back-in-conflict f =
    y-is-not-x (f two_on_d (bytes "refs/x" ∷ bytes "refs/y" ∷ []) (bytes "refs/d" ∷ []) x_on_d (bytes "refs/d") (bytes "refs/y") refl here refl here (there here)
    (record { row = row 1 1 (bytes "refs/y") (bytes "refs/d"); row_in = there here; onto-d = refl; from-n = refl }))

-- a row onto `refs/e`, which no spec gives
back-any-row : MapBackOfAnyRow → ⊥
unfolding everything reversible
back-any-row f = in-none (f one_on_d (bytes "refs/x" ∷ []) (bytes "refs/e" ∷ []) (x_on_d ∷ []) [] (row 1 0 (bytes "refs/x") (bytes "refs/e")) (bytes "refs/e") (bytes "refs/x") refl refl refl here here refl).row_in

-- the kept row, and `refs/e`
back-any-destination : MapBackOfAnyDestination → ⊥
unfolding everything reversible
back-any-destination f = in-none (f one_on_d (bytes "refs/x" ∷ []) (bytes "refs/e" ∷ []) (x_on_d ∷ []) [] x_on_d (bytes "refs/e") (bytes "refs/x") refl refl here here here refl).row_in

-- a reverse listing of no items
back-without-it : MapBackWithoutIt → ⊥
unfolding everything reversible
back-without-it f = in-none (f one_on_d (bytes "refs/x" ∷ []) [] (x_on_d ∷ []) [] x_on_d (bytes "refs/d") (bytes "refs/x") refl refl here refl here refl).row_in

-- `refs/y` is no forward item, so there is no conflict, and it stands as a source
back-any-name : MapBackToAnyName → ⊥
unfolding everything reversible
back-any-name f =
    y-is-not-x (f two_on_d (bytes "refs/x" ∷ []) (bytes "refs/d" ∷ []) (x_on_d ∷ []) [] x_on_d (bytes "refs/d") (bytes "refs/y") refl refl here refl here
    (record { row = row 1 1 (bytes "refs/y") (bytes "refs/d"); row_in = there here; onto-d = refl; from-n = refl }))

-- Canonical texts change nothing

-- a negative without source has the text `^`
canonical-any-specs : CanonicalOfAnySpecs → ⊥
unfolding everything text_fits no_plus
canonical-any-specs f = refused-accepted (f (record { mode = Negative; source = none; destination = none } ∷ []) refl (lit≤ tt) refl).1

-- `@:` and letters a: the text has `HEAD` for `@`
abbrev grows : ℕ → Text
grows k = 64 ∷ 58 ∷ replicate k 97

abbrev grown : ℕ → Spec
grown k = spec Normal (bytes "HEAD") (some (replicate k 97))

-- the longest spec grows by three bytes
canonical-any-length : CanonicalOfAnyLength → ⊥
unfolding everything no_plus
canonical-any-length f = refused-accepted (f (text_bytes (grows (spec_bytes - 2))) (grown (spec_bytes - 2) ∷ []) refl (lit≤ tt) refl).1

-- specs that fill a list grow to texts that are too many bytes for one

-- so many of the longest specs are more than a list may have
abbrev too_many : ℕ
too_many = spec_list_bytes / spec_bytes + 1

-- a list has room for so many specs of these letters, each with two bytes before them and two for its length
abbrev letters : ℕ
letters = spec_list_bytes / too_many - 4

in-replicate : {A : Type 0} (a : A) (k : ℕ) {x : A} → In x (replicate k a) → x ≡ a
in-replicate a zero m = elim m [ ]
in-replicate a (suc k) m = first (in-replicate a k) m
  where
    first : {y : _} {l : List _} → (In y l → y ≡ a) → In y (a ∷ l) → y ≡ a
    first f here = refl
    first f (there n) = f n

grown-reads : read_spec 0 (grows letters) ≡ accepted (grown letters)
unfolding everything
grown-reads = refl

many-grown-read : read_specs 0 (record_bytes (map (λ (s : Spec). grows letters) (replicate too_many (grown letters)))) ≡ accepted (map (λ (s : Spec). s) (replicate too_many (grown letters)))
unfolding everything
many-grown-read = specs-written 0 (lit≤ tt) (λ (s : Spec). grows letters) (λ (s : Spec). s) (replicate too_many (grown letters)) (lit≤ tt) (λ s m. lit≤ tt) (λ s m. rw (in-replicate (grown letters) too_many m) grown-reads) (lit≤ tt)

many-grown-long : spec_list_bytes < length (canonical_list (replicate too_many (grown letters)))
unfolding everything
many-grown-long = lit< tt

canonical-any-list : CanonicalOfAnyList → ⊥
unfolding everything text_fits no_plus
canonical-any-list f =
    let q = f (record_bytes (map (λ (s : Spec). grows letters) (replicate too_many (grown letters)))) (map (λ (s : Spec). s) (replicate too_many (grown letters))) many-grown-read refl refl in
    refused-accepted (sym (specs-long 0 (canonical_list (replicate too_many (grown letters))) (lit≤ tt) many-grown-long) ∙ q.1)

-- how many bytes an answer has for the first buffer
first_length : Answer Outputs → ℕ
first_length (accepted []) = 0
first_length (accepted (none ∷ l)) = 0
first_length (accepted (some t ∷ l)) = length t
first_length (refused n r) = 0

-- `++a` is only `+a`, whose text is read as only `a`
canonical-any-source : CanonicalOfAnySource → ⊥
unfolding everything text_fits first_length
canonical-any-source f =
    let t = f (3 ∷ bytes "++a") (spec Force (bytes "+a") none ∷ []) refl refl (lit≤ tt) in
    let e = ap first_length (t.2.forward-entry (13 ∷ bytes "refs/heads/+a")) in
    omega arith

-- the first spec is forced
first_forced : Answer (List Spec) → Bool
first_forced (accepted []) = false
first_forced (accepted (s ∷ l)) = is_force s.mode
first_forced (refused n r) = false

-- `+a` is forced, its text `a` is not
canonical-the-same : CanonicalIsTheSame → ⊥
unfolding everything text_fits no_plus first_forced
canonical-the-same f = false≢true (ap first_forced (f (2 ∷ bytes "+a") (spec Force (bytes "a") none ∷ []) refl refl (lit≤ tt) refl))

-- none of the variants holds
pub false-variants : FalseVariants
false-variants =
    record {
      conflicts-of-any-specs = any-specs;
      conflicts-of-any-rows = any-rows;
      conflicts-by-bytes = by_bytes;
      conflicts-by-destination = by-destination;
      conflicts-of-kept-rows = of-kept;
      read-back-of-any-specs = back-any-specs;
      read-back-of-any-names = back-any-names largest_number refl;
      read-back-of-any-size = back-any-size spec_count refl;
      read-back-under-none = back-under-none;
      map-back-of-any-spec = back-any-spec;
      map-back-one-sided = back-one-sided;
      map-back-in-conflict = back-in-conflict;
      map-back-of-any-row = back-any-row;
      map-back-of-any-destination = back-any-destination;
      map-back-without-it = back-without-it;
      map-back-to-any-name = back-any-name;
      canonical-of-any-specs = canonical-any-specs;
      canonical-of-any-length = canonical-any-length;
      canonical-of-any-list = canonical-any-list;
      canonical-of-any-source = canonical-any-source;
      canonical-is-the-same = canonical-the-same;
    }

-- the sample meets the premises
pub premises-met : PremisesMet
unfolding everything reversible text_fits no_plus
premises-met =
    record {
      group-is-read = refl;
      rows_are = refl;
      is-reversible = refl;
      row-is-kept = refl;
      maps-back = record { row = record { item = 1; spec = 0; kind = 0; source = bytes "refs/heads/codes"; destination = some (bytes "refs/remotes/hub/codes") }; row_in = here; onto-d = refl; from-n = refl };
      texts-fit = (refl, lit≤ tt);
      has-no-plus = refl;
    }
