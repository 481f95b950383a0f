-- The false variants of demand 3 of the calls are refuted, each by the smallest call found. Assumes nothing.
use Prim.Native.Nat.{ℕ, ◌≤◌, ◌<◌}
use native.Mathlib.Omega.{arith}
use mathlib.Core.Path.{◌≡◌, refl, ap}
use mathlib.Core.Logic.{◌⊎◌, inl, inr}
use mathlib.Core.Bool.{false≢true}
use mathlib.Core.List.{List, [], ◌∷◌, ◌++◌}
use mathlib.Core.Option.{Option, none, some}
use lib.Dec.{lit≤, lit<}
use lib.ListN.{length, drop}
use lib.Seq.{take-append_seam}
use Rattle.meaning.specs.Bytes.{Text, bytes, each, here, there}
use Rattle.meaning.specs.Spec.{Answer, accepted, Normal, Force, Spec}
use Rattle.meaning.specs.Buffers.{Outputs}
use Rattle.meaning.specs.Number.{record_bytes}
use Rattle.meaning.specs.Rows.{Row, row_list_of}
use Rattle.meaning.specs.Listing.{forward_rows}
use Rattle.meaning.specs.Validation.{conflicts, conflict_bytes}
use Rattle.meaning.specs.Entries.{match_lhs}
use Rattle.meaning.specs.Everything.{everything}
use Rattle.promises.specs.Terms.{reversible, text_fits, OneCall, MetOne, TwoCall, MetTwo, TellsConflicts, TellsPass}
use Rattle.promises.specs.Variants.{ReadBackOfAnySize, hub_row}
use Rattle.promises.specs.CallVariants.{ReadThoughRefused, ConflictsToldThoughRefused, ConflictsToldOfKept, ListingsToldOfAnySize, ListingsToldOfBuffer, MapBackToldInConflict, MapBackToldOfAnySpec, MapBackToldThoughRefused, CanonicalToldThoughRefused, CanonicalToldOfAnySource, FalseCallVariants, clash, CallsMet}
use Rattle.promises.proofs.Laws.{in-none, same-eq}
use Rattle.promises.proofs.Buffers.{meets-short, meets-written, meets-two-refused, meets-two-short-first, meets-two-conflicts, meets-two-passes}
use Rattle.promises.proofs.Fitting.{rows-answered}
use Rattle.promises.proofs.Refusals.{refused-accepted}
use Rattle.promises.proofs.Variants.{false-variants}

-- calls

-- one that writes b over the front of its buffer
abbrev pub writing : Text → Text → OneCall
writing b before = record { before = before; after = b ++ drop (length b) before; refusal = 0; record_number = 0; size = length b }

pub writing-met : (a : Answer Outputs) (b before : Text) → a ≡ accepted (some b ∷ []) → length b ≤ length before → MetOne a (writing b before)
writing-met a b before e h = meets-written a before _ b 0 0 (length b) e h refl refl refl refl

-- one whose buffer has no byte, which b needs
abbrev pub short_of : Text → OneCall
short_of b = record { before = []; after = []; refusal = 17; record_number = 0; size = length b }

pub short-met : (a : Answer Outputs) (b : Text) → a ≡ accepted (some b ∷ []) → 0 < length b → MetOne a (short_of b)
short-met a b e h = meets-short a [] [] b 17 0 (length b) e h refl refl refl refl

-- one that writes conflicts over a buffer of those bytes
abbrev conflicts_in : Text → TwoCall
conflicts_in b = record { out = b; fixes = []; out_after = b ++ drop (length b) b; fixes_after = []; refusal = 0; record_number = 0; mark = 1; size = length b; fixes_size = 0; buffer = 0 }

conflicts-met : (a : Answer Outputs) (b : Text) → a ≡ accepted (some b ∷ none ∷ []) → MetTwo a (conflicts_in b)
conflicts-met a b e = meets-two-conflicts a b [] _ [] b 0 0 1 (length b) 0 0 e (omega arith) refl refl refl refl refl refl refl refl

-- one that writes kept rows and no fixes
abbrev kept_in : Text → TwoCall
kept_in b = record { out = b; fixes = []; out_after = b ++ drop (length b) b; fixes_after = []; refusal = 0; record_number = 0; mark = 0; size = length b; fixes_size = 0; buffer = 0 }

kept-met : (a : Answer Outputs) (b : Text) → a ≡ accepted (some b ∷ some [] ∷ []) → MetTwo a (kept_in b)
kept-met a b e = meets-two-passes a b [] _ [] b [] 0 0 0 (length b) 0 0 e (omega arith) (omega arith) refl refl refl refl refl refl refl refl

-- one whose buffers have no byte
abbrev no_room : Text → TwoCall
no_room b = record { out = []; fixes = []; out_after = []; fixes_after = []; refusal = 17; record_number = 0; mark = 0; size = length b; fixes_size = 0; buffer = 1 }

no-room-met : (a : Answer Outputs) (b : Text) (part : Option Text) → a ≡ accepted (some b ∷ part ∷ []) → 0 < length b → MetTwo a (no_room b)
no-room-met a b part e h = meets-two-short-first a [] [] [] [] b part 17 0 0 (length b) 0 1 e h refl refl refl refl refl refl refl refl

-- rows and specs, written short
abbrev row : ℕ → ℕ → Text → Text → Row
row i s a b = record { item = i; spec = s; kind = 0; source = a; destination = some b }

abbrev pub only : Text → Spec
only t = record { mode = Normal; source = some t; destination = none }

abbrev pair : Text → Text → Spec
pair s d = record { mode = Normal; source = some s; destination = some d }

-- Unless refused

-- `^` is refused with 10
though-refused : ReadThoughRefused → ⊥
unfolding everything
though-refused f =
    refused-accepted (f (1 ∷ bytes "^") [] (record { out = []; fixes = []; out_after = []; fixes_after = []; refusal = 10; record_number = 0; mark = 0; size = 0; fixes_size = 0; buffer = 0 })
    (meets-two-refused _ [] [] [] [] 10 (some 0) 10 0 0 0 0 0 refl refl refl refl refl refl refl refl refl)).group-is

-- Conflicts told

-- one row, and no room for it
short-told : ConflictsToldThoughRefused → ⊥
unfolding everything
short-told f =
    go (f (1 ∷ bytes "a") (row_list_of one) (only (bytes "a") ∷ []) one (no_room (row_list_of one)) refl refl (no-room-met _ (row_list_of one) (some []) refl (lit< tt)))
  where
    one : List Row
    one = row 1 0 (bytes "a") (bytes "refs/b") ∷ []

    go : TellsConflicts one (no_room (row_list_of one)) ⊎ TellsPass one (no_room (row_list_of one)) → ⊥
    go (inl t) = omega (arith, t.marked)
    go (inr t) = let e : 0 ≡ length (row_list_of one) = ap (λ (s : Text). length s) t.kept-left.front in omega arith

-- two sources on a partial destination
kept-told : ConflictsToldOfKept → ⊥
unfolding everything
kept-told f =
    let k = each (conflicts clash) conflict_bytes in
    in-none (f (1 ∷ bytes "a") (row_list_of clash) (only (bytes "a") ∷ []) clash (conflicts_in k) refl refl (conflicts-met _ k refl) refl refl).1.first-in

-- Listings told

-- a call with a buffer of just the listing's bytes
any-size : ListingsToldOfAnySize → ReadBackOfAnySize
any-size f specs items group names e g =
    let b = row_list_of (forward_rows group names) in
    let q = f specs items group names (writing b b) e g (writing-met (match_lhs 0 specs items) b b (rows-answered 0 specs items group names e g).0 (omega arith)) refl in
    rw (take-append_seam b (drop (length b) b)) at q

-- no rows, and a byte 128 that stays in the buffer
whole-buffer : ListingsToldOfBuffer → ⊥
unfolding everything
whole-buffer f = refused-accepted (f [] [] [] [] (writing [] (128 ∷ [])) refl refl (writing-met _ [] (128 ∷ []) refl (lit≤ tt)) refl (lit≤ tt))

-- Map back told

-- `refs/x:refs/d` and `refs/y:refs/d`, and both names
abbrev two_on_d : List Spec
two_on_d = pair (bytes "refs/x") (bytes "refs/d") ∷ pair (bytes "refs/y") (bytes "refs/d") ∷ []

abbrev x_and_y : List Text
x_and_y = bytes "refs/x" ∷ bytes "refs/y" ∷ []

abbrev two_rows : List Row
two_rows = row 1 0 (bytes "refs/x") (bytes "refs/d") ∷ row 2 1 (bytes "refs/y") (bytes "refs/d") ∷ []

abbrev back_rows : List Row
back_rows = row 1 0 (bytes "refs/x") (bytes "refs/d") ∷ row 1 1 (bytes "refs/y") (bytes "refs/d") ∷ []

y-is-not-x : bytes "refs/y" ≡ bytes "refs/x" → ⊥
y-is-not-x e = false≢true (same-eq e)

in-conflict : MapBackToldInConflict → ⊥
unfolding everything reversible
in-conflict f =
    let b = row_list_of two_rows in
    let k = each (conflicts two_rows) conflict_bytes in
    let v = row_list_of back_rows in
    y-is-not-x (f (record_bytes (bytes "refs/x:refs/d" ∷ bytes "refs/y:refs/d" ∷ [])) (record_bytes x_and_y) (record_bytes (bytes "refs/d" ∷ [])) two_on_d x_and_y (bytes "refs/d" ∷ []) (writing b b) (conflicts_in k) (writing v v)
    refl refl refl refl (writing-met _ b b refl (omega arith)) refl (conflicts-met _ k refl) refl refl (writing-met _ v v refl (omega arith)) refl
    (row 1 0 (bytes "refs/x") (bytes "refs/d")) (bytes "refs/d") (bytes "refs/y") here refl here (there here)
    (record { row = row 1 1 (bytes "refs/y") (bytes "refs/d"); row_in = there here; onto-d = refl; from-n = refl }))

-- `a:b` maps `refs/heads/a` to `refs/heads/b`, which it does not map back
any_spec : MapBackToldOfAnySpec → ⊥
unfolding everything
any_spec f =
    let r = row 1 0 (bytes "refs/heads/a") (bytes "refs/heads/b") in
    let b = row_list_of (r ∷ []) in
    let t = f (3 ∷ bytes "a:b") (record_bytes (bytes "refs/heads/a" ∷ [])) (record_bytes (bytes "refs/heads/b" ∷ [])) (pair (bytes "a") (bytes "b") ∷ []) (bytes "refs/heads/a" ∷ []) (bytes "refs/heads/b" ∷ []) (writing b b) (kept_in b) (writing [] [])
    refl refl refl (writing-met _ b b refl (omega arith)) refl (kept-met _ b refl) refl refl (writing-met _ [] [] refl (omega arith)) refl in
    let k : r ∷ [] ≡ t.0 = accepted-same t.1 in
    in-none (t.2 r (bytes "refs/heads/b") (bytes "refs/heads/a") (rw (← k) here) refl here here refl).row_in
  where
    accepted-same : {l m : List Row} → accepted l ≡ accepted m → l ≡ m
    accepted-same e = cc

-- one reverse row, and no room for it
back-short : MapBackToldThoughRefused → ⊥
unfolding everything reversible
back-short f =
    let v = row_list_of back_rows in
    let t = f (record_bytes (bytes "refs/x:refs/d" ∷ bytes "refs/y:refs/d" ∷ [])) (record_bytes (bytes "refs/d" ∷ [])) two_on_d (bytes "refs/d" ∷ []) (short_of v) refl refl refl (short-met _ v refl (lit< tt)) in
    let e : 0 ≡ length v = ap (λ (s : Text). length s) t.front in
    omega arith

-- Canonical texts told

-- `a`, and no room for it
text-short : CanonicalToldThoughRefused → ⊥
unfolding everything
text-short f =
    let e : ◌≡◌ {A = ℕ} 0 1 = ap (λ (s : Text). length s) (f (bytes "a") (only (bytes "a")) (short_of (bytes "a")) refl (short-met _ (bytes "a") refl (lit< tt))) in
    omega arith

-- `++a` is only `+a`, whose text is read as only `a`: that lists no row where the other lists one
any-source : CanonicalToldOfAnySource → ⊥
unfolding everything text_fits
any-source f =
    let m = (f (3 ∷ bytes "++a") (record { mode = Force; source = some (bytes "+a"); destination = none } ∷ []) refl refl (lit≤ tt) (13 ∷ bytes "refs/heads/+a") (writing [] [])).1 (writing-met _ [] [] refl (lit≤ tt)) in
    let e : m.told.refusal ≡ 17 = m.meets.tells.refusal_is in
    omega (arith, e, m.refusal_is)

-- none of the variants holds
pub false-call-variants : FalseCallVariants
false-call-variants =
    record {
      read-though-refused = though-refused;
      conflicts-told-though-refused = short-told;
      conflicts-told-of-kept = kept-told;
      listings-told-of-any-size = λ f. false-variants.read-back-of-any-size (any-size f);
      listings-told-of-buffer = whole-buffer;
      map-back-told-in-conflict = in-conflict;
      map-back-told-of-any-spec = any_spec;
      map-back-told-though-refused = back-short;
      canonical-told-though-refused = text-short;
      canonical-told-of-any-source = any-source;
    }

-- there are such calls
pub calls-met : CallsMet
unfolding everything
calls-met =
    let b = row_list_of (hub_row ∷ []) in
    let k = each (conflicts clash) conflict_bytes in
    record {
      there = writing b b;
      there-met = writing-met _ b b refl (omega arith);
      there-done = refl;
      there-fits = lit≤ tt;
      pass = kept_in b;
      pass-met = kept-met _ b refl;
      pass-done = (refl, refl);
      row-is-kept = refl;
      back = writing b b;
      back-met = writing-met _ b b refl (omega arith);
      back_done = refl;
      conflict = conflicts_in k;
      conflict-met = conflicts-met _ k refl;
      conflict-told = (refl, refl);
    }
