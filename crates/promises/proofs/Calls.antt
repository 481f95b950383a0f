-- Demand 3 of the calls. Assumes nothing.
use Prim.Native.Nat.{ℕ, ◌≤◌}
use native.Mathlib.Omega.{arith}
use mathlib.Core.Path.{◌≡◌, refl, ap}
use mathlib.Core.Logic.{◌↔◌, ◌⊎◌, inl, inr}
use mathlib.Core.Bool.{Bool, true, false, cond}
use mathlib.Core.List.{List, [], ◌∷◌, ◌++◌, map}
use borrow.Author.Tests.{leb-true, leb-false}
use lib.Dec.{leb}
use lib.ListN.{length, length-append}
use Rattle.meaning.specs.Bytes.{Text, keep, each, In, here}
use Rattle.meaning.specs.Limits.{row_list_bytes}
use Rattle.meaning.specs.Spec.{accepted, Spec}
use Rattle.meaning.specs.Buffers.{Outputs}
use Rattle.meaning.specs.Number.{record_bytes}
use Rattle.meaning.specs.Lists.{read_specs, read_items}
use Rattle.meaning.specs.Rows.{Row, row_bytes, row_list_of, read_rows}
use Rattle.meaning.specs.Listing.{forward_rows, reverse_rows}
use Rattle.meaning.specs.Validation.{Conflict, conflict_on, conflicts, conflict_bytes, is_kept, fix_of, fix_bytes, passing, pass_unless, verdict}
use Rattle.meaning.specs.Entries.{verdict_bytes, match_lhs, match_rhs, verdict_on, validated}
use Rattle.promises.specs.Terms.{TwoSources, canonical_texts, OneCall, MetOne, bytes_of, CallOnEach, TwoCall, MetTwo, Leaves, TellsConflicts, TellsPass, ReadsItems, ReadsRows}
use Rattle.promises.specs.Calls.{UnlessRefused, ConflictsTold, ListingsTold, MapBackTold, CanonicalTold}
use Rattle.promises.proofs.Laws.{keep-in}
use Rattle.promises.proofs.Members.{group-count, names-count, rows_long}
use Rattle.promises.proofs.Conflicts.{conflict-of-two, two-of-conflict, passes_none}
use Rattle.promises.proofs.ReadBack.{forward-sound, reverse-sound, sound_back}
use Rattle.promises.proofs.MapBack.{kept-map-back}
use Rattle.promises.proofs.Canonical.{canonical-texts-change-nothing}
use Rattle.promises.proofs.Fitting.{rows-answered}
use Rattle.promises.specs.Facts.{EachRead}
use Rattle.promises.proofs.Texts.{specs-texts}
use Rattle.promises.proofs.Leaving.{one-accepted, two-accepted, same-one, same-two, one-leaves, two-conflicts, two-passes}
use Rattle.promises.proofs.Refusals.{and-accepted, match-lhs-above, match-rhs-above, validated-above}
use Rattle.promises.proofs.KeyCalls.{text-leaves, key-told}

-- unless refused

read-lhs : (specs items : Text) (w : Outputs) → match_lhs 0 specs items ≡ accepted w → ReadsItems specs items
unfolding match_lhs
read-lhs specs items w e =
    let x = and-accepted (read_specs 0 specs) _ e in
    let y = and-accepted (read_items items) _ x.2 in
    record { group = x.0; names = y.0; group-is = x.1; names-are = y.1 }

read-rhs : (specs items : Text) (w : Outputs) → match_rhs 0 specs items ≡ accepted w → ReadsItems specs items
unfolding match_rhs
read-rhs specs items w e =
    let x = and-accepted (read_specs 0 specs) _ e in
    let y = and-accepted (read_items items) _ x.2 in
    record { group = x.0; names = y.0; group-is = x.1; names-are = y.1 }

read-validated : (specs list : Text) (w : Outputs) → validated 0 specs list ≡ accepted w → ReadsRows specs list
unfolding validated verdict_on
read-validated specs list w e =
    let v = and-accepted (verdict_on 0 specs list) _ e in
    let x = and-accepted (read_specs 0 specs) _ v.1 in
    let y = and-accepted (read_rows (length x.0) list) _ x.2 in
    record { group = x.0; rows = y.0; group-is = x.1; rows_are = y.1 }

pub unless-refused : UnlessRefused
unless-refused = (
  λ t c m z. let k = key-told 0 t c m z in (k.0, k.1),
  λ specs items c m z. let w = one-accepted (match_lhs 0 specs items) c (match-lhs-above 0 specs items) m z in read-lhs specs items w.0 w.1,
  λ specs items c m z. let w = one-accepted (match_rhs 0 specs items) c (match-rhs-above 0 specs items) m z in read-rhs specs items w.0 w.1,
  λ specs list c m z. let w = two-accepted (validated 0 specs list) c (validated-above 0 specs list) m z in read-validated specs list w.0 w.1,
)

-- conflicts told

-- validation answers the bytes of the verdict
validated-is : (specs list : Text) (group : List Spec) (rows : List Row) → read_specs 0 specs ≡ accepted group → read_rows (length group) list ≡ accepted rows → validated 0 specs list ≡ accepted (verdict_bytes (pass_unless rows (conflicts rows)))
unfolding validated verdict_on verdict
validated-is specs list group rows e f = rw (e, f)

-- the destinations of the conflicts are exactly those with two sources
conflicts-two : (rows : List Row) (d : Text) → ((k : Conflict) × In k (conflicts rows) × (k.destination ≡ d)) ↔ TwoSources rows d
unfolding conflict_on
conflicts-two rows d = ((λ n. rw n.2 at (two-of-conflict rows n.0 n.1)), (λ t. (conflict_on rows d, conflict-of-two rows d t, refl)))

pub conflicts-told : ConflictsTold
conflicts-told specs list group rows c e f m z = go (conflicts rows) refl (validated-is specs list group rows e f)
  where
    go : (l : List Conflict) → conflicts rows ≡ l → validated 0 specs list ≡ accepted (verdict_bytes (pass_unless rows l)) → TellsConflicts rows c ⊎ TellsPass rows c
    go [] x a =
        let k = two-passes (validated 0 specs list) (row_list_of (keep is_kept rows)) (each (each rows fix_of) fix_bytes) c a m z in
        inr (record { unmarked = k.mark-none; kept-left = k.first-left; fixes-left = k.second-left; none-two = passes_none rows [] x tt })
    go (q ∷ l) x a =
        let k = two-conflicts (validated 0 specs list) (each (q ∷ l) conflict_bytes) c a m z in
        inl (record {
          marked = k.mark-one;
          conflicts-left = rw x k.first-left;
          fixes-alone = k.second-alone;
          no-fixes-told = k.second_none;
          exactly = conflicts-two rows;
          one-at-least = (q.destination, two-of-conflict rows q (rw x here));
        })

-- listings told

-- what the listing calls leave
forward-leaves : (specs items : Text) (group : List Spec) (names : List Text) (c : OneCall) → read_specs 0 specs ≡ accepted group → read_items items ≡ accepted names → MetOne (match_lhs 0 specs items) c → c.refusal ≡ 0 → Leaves c.before c.after (row_list_of (forward_rows group names)) c.size
forward-leaves specs items group names c e f m z = one-leaves (match_lhs 0 specs items) (row_list_of (forward_rows group names)) c (rows-answered 0 specs items group names e f).0 m z

reverse-leaves : (specs items : Text) (group : List Spec) (names : List Text) (c : OneCall) → read_specs 0 specs ≡ accepted group → read_items items ≡ accepted names → MetOne (match_rhs 0 specs items) c → c.refusal ≡ 0 → Leaves c.before c.after (row_list_of (reverse_rows group names)) c.size
reverse-leaves specs items group names c e f m z = one-leaves (match_rhs 0 specs items) (row_list_of (reverse_rows group names)) c (rows-answered 0 specs items group names e f).1 m z

-- what they leave is read back, where it fits a row list
forward-back : (specs items : Text) (group : List Spec) (names : List Text) (c : OneCall) → read_specs 0 specs ≡ accepted group → read_items items ≡ accepted names → Leaves c.before c.after (row_list_of (forward_rows group names)) c.size → c.size ≤ row_list_bytes → read_rows (length group) (bytes_of c) ≡ accepted (forward_rows group names)
forward-back specs items group names c e f l h =
    let z = l.size_is in
    rw l.front (sound_back (length group) (length names) (forward_rows group names) (group-count 0 specs group e) (names-count items names f) (forward-sound group names) (omega arith))

reverse-back : (specs items : Text) (group : List Spec) (names : List Text) (c : OneCall) → read_specs 0 specs ≡ accepted group → read_items items ≡ accepted names → Leaves c.before c.after (row_list_of (reverse_rows group names)) c.size → c.size ≤ row_list_bytes → read_rows (length group) (bytes_of c) ≡ accepted (reverse_rows group names)
reverse-back specs items group names c e f l h =
    let z = l.size_is in
    rw l.front (sound_back (length group) (length names) (reverse_rows group names) (group-count 0 specs group e) (names-count items names f) (reverse-sound group names) (omega arith))

pub listings-told : ListingsTold
listings-told specs items group names there e f m z h =
    let l = forward-leaves specs items group names there e f m z in
    let b = forward-back specs items group names there e f l (omega (arith, h)) in
    (l, b, λ c n y. conflicts-told specs (bytes_of there) group (forward_rows group names) c e b n y)

-- map back told

-- kept rows have no more bytes than the rows
keep-shorter : (test : Row → Bool) (l : List Row) → length (each (keep test l) row_bytes) ≤ length (each l row_bytes)
keep-shorter test [] = omega arith
keep-shorter test (r ∷ l) = go (test r) (keep-shorter test l)
  where
    go : (b : Bool) → length (each (keep test l) row_bytes) ≤ length (each l row_bytes) → length (each (cond b (r ∷ keep test l) (keep test l)) row_bytes) ≤ length (row_bytes r ++ each l row_bytes)
    go true h = omega (arith, length-append (row_bytes r) (each (keep test l) row_bytes), length-append (row_bytes r) (each l row_bytes))
    go false h = omega (arith, length-append (row_bytes r) (each l row_bytes))

-- a list that validation did not refuse fits a row list
validated-fits : (specs list : Text) (c : TwoCall) → MetTwo (validated 0 specs list) c → c.refusal ≡ 0 → length list ≤ row_list_bytes
validated-fits specs list c m z = let r = unless-refused.3 specs list c m z in go r.group r.rows_are (leb (length list) row_list_bytes) refl
  where
    go : (group : List Spec) {rows : List Row} → read_rows (length group) list ≡ accepted rows → (b : Bool) → leb (length list) row_list_bytes ≡ b → length list ≤ row_list_bytes
    go group e true x = leb-true _ _ x
    go group e false x = let q = rows_long (length group) list (leb-false _ _ x) in absurd (let z : ◌≡◌ {A = ℕ} 0 1 = cc in omega arith)

-- without conflicts the verdict is a pass with the kept rows
passes-with : (rows : List Row) (l : List Conflict) → conflicts rows ≡ l → ((d : Text) → TwoSources rows d → ⊥) → pass_unless rows l ≡ passing (keep is_kept rows) (each rows fix_of)
passes-with rows [] e n = refl
passes-with rows (c ∷ l) e n = absurd (n c.destination (two-of-conflict rows c (rw e here)))

verdict-with : (rows : List Row) → ((d : Text) → TwoSources rows d → ⊥) → verdict rows ≡ passing (keep is_kept rows) (each rows fix_of)
unfolding verdict
verdict-with rows n = passes-with rows (conflicts rows) refl n

-- a call that does not tell the mark tells a pass
pass-told : (rows : List Row) (c : TwoCall) → c.mark ≡ 0 → TellsConflicts rows c ⊎ TellsPass rows c → TellsPass rows c
pass-told rows c k (inl t) = absurd (omega (arith, t.marked))
pass-told rows c k (inr t) = t

pub map-back-told : MapBackTold
unfolding row_list_of
map-back-told specs items others group names other_names there c back e f g reversing m z n y k o x =
    let l = forward-leaves specs items group names there e f m z in
    let s = l.size_is in
    let fits : length (bytes_of there) ≤ row_list_bytes = validated-fits specs (bytes_of there) c n y in
    let size : there.size ≤ row_list_bytes = omega (arith, ap (λ (t : Text). length t) l.front) in
    let b = forward-back specs items group names there e f l size in
    let t = pass-told (forward_rows group names) c (omega (arith, k)) (conflicts-told specs (bytes_of there) group (forward_rows group names) c e b n y) in
    let shorter = keep-shorter is_kept (forward_rows group names) in
    let v = reverse-leaves specs others group other_names back e g o x in (
      rw t.kept-left.front (sound_back (length group) (length names) (keep is_kept (forward_rows group names)) (group-count 0 specs group e) (names-count items names f) (λ r i. forward-sound group names r (keep-in is_kept (forward_rows group names) i).0) (omega arith)),
      v,
      reverse-back specs others group other_names back e g v,
      λ r d u i j p q. kept-map-back group names other_names (keep is_kept (forward_rows group names)) (each (forward_rows group names) fix_of) r d u reversing (verdict-with (forward_rows group names) t.none-two) i j p q,
    )

-- canonical texts told

-- what such calls answer, in order
texts-answered : (texts : List Text) (group : List Spec) (calls : List OneCall) → EachRead 0 texts group → CallOnEach texts calls → map bytes_of calls ≡ canonical_texts group
texts-answered [] [] [] r m = refl
texts-answered [] [] (c ∷ calls) r m = elim m [ ]
texts-answered [] (s ∷ group) calls r m = elim r [ ]
texts-answered (t ∷ texts) [] calls r m = elim r [ ]
texts-answered (t ∷ texts) (s ∷ group) [] r m = elim m [ ]
texts-answered (t ∷ texts) (s ∷ group) (c ∷ calls) r m = rw ((text-leaves 0 t s c r.0 m.0 m.1).front, texts-answered texts group calls r.1 m.2)

pub canonical-told : CanonicalTold
canonical-told = (
  text-leaves 0,
  λ texts group calls e m. ap record_bytes (texts-answered texts group calls (specs-texts texts group e) m),
  λ specs group e fit short plus.
      let k = (canonical-texts-change-nothing specs group e fit short plus).2 in
      ((λ items c. same-one (k.forward-entry items) c), (λ items c. same-one (k.reverse-entry items) c), (λ list c. same-two (k.validated-entry list) c)),
)

-- demand 3 of the calls, whole
pub demand-three-of-calls : UnlessRefused × ConflictsTold × ListingsTold × MapBackTold × CanonicalTold
demand-three-of-calls = (unless-refused, conflicts-told, listings-told, map-back-told, canonical-told)
