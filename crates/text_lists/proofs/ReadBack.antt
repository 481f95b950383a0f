-- The lists that are gathered are read back, as the specs and the names of the lines. Assumes nothing.
use Prim.Native.Nat.{ℕ, zero, suc, ◌+◌, ◌≤◌}
use mathlib.Core.Path.{◌≡◌, refl, sym, ap, ◌∙◌}
use mathlib.Core.List.{List, [], ◌∷◌, ◌++◌, append-nil, map}
use mathlib.Core.Bool.{Bool, true, false, not, cond}
use mathlib.Core.Option.{none}
use mathlib.Core.Logic.{◌⊎◌, inl, inr}
use native.Mathlib.Omega.{arith}
use lib.Dec.{leb}
use lib.ListN.{length, length-append}
use Rattle.meaning.specs.Bytes.{Text, bytes, begins, In}
use Rattle.meaning.specs.Limits.{spec_bytes, name_bytes, spec_list_bytes, item_list_bytes, spec_count, item_count, program_bytes}
use Rattle.meaning.specs.Spec.{accepted, refused, spec_refusal, spec_of, read_spec}
use Rattle.meaning.specs.Number.{text_bytes, record_bytes}
use Rattle.meaning.specs.Lists.{read_specs, read_items}
use Rattle.meaning.specs.Deliveries.{header, within_limit, printed, output}
use Rattle.promises.proofs.Accepted.{read-passed}
use Rattle.promises.proofs.Laws.{in-append, in-cons, map_same}
use Rattle.promises.proofs.Reading.{records-append}
use Rattle.promises.proofs.Members.{specs-written, items-written}
use Rattle.print.specs.Unshown.{Unshown, stands, fault, unshown}
use Rattle.text_lists.specs.Line.{lines_of, Held, nothing, marked, unknown, fetch, push, name, shown, held_in}
use Rattle.text_lists.specs.Gather.{name_reason, unshown_reason, unshown_names, reason_of, specs_in, names_in, unless_stopped, gather, gathered}
use Rattle.text_lists.specs.Facts.{printed_listing, ReadsBack}
use Rattle.text_lists.proofs.Reasons.{spec-passes, name-passes}
use Rattle.text_lists.proofs.Growth.{fault-refuses}

-- lists within the limits of document 01, of texts that pass their questions
record Listed (limit most : ℕ) (Passes : Text → Type 0) (l : List Text) : Type 0 where
  few : length l ≤ limit
  pass : (t : Text) → In t l → Passes t
  fits : length (record_bytes l) ≤ most

none-listed : (limit most : ℕ) (Passes : Text → Type 0) → Listed limit most Passes []
unfolding record_bytes
none-listed limit most Passes = record { few = omega arith; pass = λ t m. elim m [ ]; fits = omega arith }

same-listed : (limit most : ℕ) (Passes : Text → Type 0) (l : List Text) → Listed limit most Passes l → Listed limit most Passes (l ++ [])
same-listed limit most Passes l p = rw (append-nil l) p

one_size : (l : List Text) (t : Text) → length (record_bytes (l ++ (t ∷ []))) ≡ length (record_bytes l) + length (text_bytes t)
unfolding record_bytes
one_size l t = ap length (records-append l (t ∷ [])) ∙ length-append (record_bytes l) (record_bytes (t ∷ [])) ∙ ap (λ (x : Text). length (record_bytes l) + length x) (append-nil (text_bytes t))

more-listed : (limit most : ℕ) (Passes : Text → Type 0) (l : List Text) → Listed limit most Passes l → (t : Text) → length l + 1 ≤ limit → Passes t → length (record_bytes l) + length (text_bytes t) ≤ most → Listed limit most Passes (l ++ (t ∷ []))
more-listed limit most Passes l p t few passes fits =
    record {
      few = omega (arith, length-append l (t ∷ []));
      pass = λ s m. either s (in-append l m);
      fits = omega (arith, one_size l t);
    }
  where
    last : (s : Text) → (s ≡ t) ⊎ In s [] → Passes s
    last s (inl e) = rw e passes
    last s (inr m) = elim m [ ]

    either : (s : Text) → In s l ⊎ In s (t ∷ []) → Passes s
    either s (inl m) = p.pass s m
    either s (inr m) = last s (in-cons m)

-- what passes
record SpecText (t : Text) : Type 0 where
  short : length t ≤ spec_bytes
  reads : read_spec 0 t ≡ accepted (spec_of 0 t)

abbrev NameText : Text → Type 0
NameText t = length t ≤ name_bytes

reads-own : (t : Text) → spec_refusal 0 t ≡ 0 → read_spec 0 t ≡ accepted (spec_of 0 t)
unfolding read_spec
reads-own t e = rw e

spec-text : (t : Text) → spec_refusal 0 t ≡ 0 → SpecText t
spec-text t e = record { short = (read-passed 0 t (spec_of 0 t) (reads-own t e)).size; reads = reads-own t e }

record Both (specs names : List Text) : Type 0 where
  specs-listed : Listed spec_count spec_list_bytes SpecText specs
  names-listed : Listed item_count item_list_bytes NameText names

-- a name that is not refused keeps the lists so, and so does one as a listing shows it
name-more : (specs names : List Text) → Both specs names → (t : Text) → name_reason (length names) (length (record_bytes names)) t ≡ 0 → Both (specs ++ []) (names ++ (t ∷ []))
name-more specs names b t e =
    let p = name-passes (length names) (length (record_bytes names)) t e in
    record {
      specs-listed = same-listed spec_count spec_list_bytes SpecText specs b.specs-listed;
      names-listed = more-listed item_count item_list_bytes NameText names b.names-listed t (omega (arith, p.few)) p.short p.fits;
    }

shown-more : (specs names : List Text) → Both specs names → (u : Text) (r : Unshown) → unshown_reason (length names) (length (record_bytes names)) u r ≡ 0 → Both (specs ++ []) (names ++ unshown_names r)
shown-more specs names b u (stands t) e = name-more specs names b t e
shown-more specs names b u (fault k) e = absurd (fault-refuses u k e)

-- a line that is not refused keeps the lists so
both-more : (specs names : List Text) → Both specs names → (h : Held) → reason_of (length specs) (length (record_bytes specs)) (length names) (length (record_bytes names)) h ≡ 0 → Both (specs ++ specs_in h) (names ++ names_in h)
both-more specs names b nothing e = record { specs-listed = same-listed spec_count spec_list_bytes SpecText specs b.specs-listed; names-listed = same-listed item_count item_list_bytes NameText names b.names-listed }
both-more specs names b marked e = absurd (omega arith)
both-more specs names b unknown e = absurd (omega arith)
both-more specs names b (fetch t) e =
    let p = spec-passes (length specs) (length (record_bytes specs)) t e in
    record {
      specs-listed = more-listed spec_count spec_list_bytes SpecText specs b.specs-listed t (omega (arith, p.few)) (spec-text t p.own) p.fits;
      names-listed = same-listed item_count item_list_bytes NameText names b.names-listed;
    }
both-more specs names b (push t) e = absurd (omega arith)
both-more specs names b (name t) e = name-more specs names b t e
both-more specs names b (shown u) e = shown-more specs names b u (unshown u) e

-- the lists of a walk are so, from lists that are
walk-both : (k : ℕ) (specs names lines : List Text) → Both specs names → Both (gather k specs names lines).specs (gather k specs names lines).names
walk-both k specs names [] b = b
walk-both k specs names (l ∷ lines) b =
    go (reason_of (length specs) (length (record_bytes specs)) (length names) (length (record_bytes names)) (held_in l)) refl (λ c. walk-both (k + 1) (specs ++ specs_in (held_in l)) (names ++ names_in (held_in l)) lines c)
  where
    go : (n : ℕ) → reason_of (length specs) (length (record_bytes specs)) (length names) (length (record_bytes names)) (held_in l) ≡ n → (Both (specs ++ specs_in (held_in l)) (names ++ names_in (held_in l)) → Both (gather (k + 1) (specs ++ specs_in (held_in l)) (names ++ names_in (held_in l)) lines).specs (gather (k + 1) (specs ++ specs_in (held_in l)) (names ++ names_in (held_in l)) lines).names) → Both (unless_stopped n k l specs names (gather (k + 1) (specs ++ specs_in (held_in l)) (names ++ names_in (held_in l)) lines)).specs (unless_stopped n k l specs names (gather (k + 1) (specs ++ specs_in (held_in l)) (names ++ names_in (held_in l)) lines)).names
    go zero e f = f (both-more specs names b (held_in l) e)
    go (suc n) e f = b

gathered-both : (s : Text) → Both (gathered s).specs (gathered s).names
unfolding gathered
gathered-both s = walk-both 1 [] [] (lines_of s) (record { specs-listed = none-listed spec_count spec_list_bytes SpecText; names-listed = none-listed item_count item_list_bytes NameText })

-- such lists are read back
specs-back : (l : List Text) → Listed spec_count spec_list_bytes SpecText l → read_specs 0 (record_bytes l) ≡ accepted (map (spec_of 0) l)
specs-back l p =
    let e : map (λ (t : Text). t) l ≡ l = map_same l in
    let h : length (record_bytes (map (λ (t : Text). t) l)) ≤ spec_list_bytes = rw e p.fits in
    ap (λ (m : List Text). read_specs 0 (record_bytes m)) (sym e) ∙ specs-written 0 (omega arith) (λ (t : Text). t) (spec_of 0) l p.few (λ t m. (p.pass t m).short) (λ t m. (p.pass t m).reads) h

-- and give the listing, or 17
module _ (s : Text) (es : read_specs 0 (record_bytes (gathered s).specs) ≡ accepted (map (spec_of 0) (gathered s).specs)) (en : read_items (record_bytes (gathered s).names) ≡ accepted (gathered s).names) where
  gives-listing : printed (record_bytes (gathered s).specs) (record_bytes (gathered s).names) ≡ within_limit (printed_listing s)
  unfolding printed printed_listing
  gives-listing = rw (es, en)

  -- a refusal is told from a listing by its first word
  limit-marked : begins (bytes "refused ") (output (within_limit (printed_listing s))) ≡ not (leb (length (printed_listing s)) program_bytes)
  unfolding printed_listing header
  limit-marked = go (leb (length (printed_listing s)) program_bytes)
    where
      go : (b : Bool) → begins (bytes "refused ") (output (cond b (accepted (printed_listing s)) (refused 17 none))) ≡ not b
      go true = refl
      go false = refl

pub reads-back : (s : Text) → ReadsBack s
reads-back s =
    let b = gathered-both s in
    let es = specs-back (gathered s).specs b.specs-listed in
    let en = items-written (gathered s).names b.names-listed.few b.names-listed.pass b.names-listed.fits in
    let e = gives-listing s es en in
    record { specs-read = es; names-read = en; prints = e; long-marked = rw e (limit-marked s es en) }
