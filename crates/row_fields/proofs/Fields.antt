-- The places of a row that is read part by part denote the row that reading gives. Assumes nothing.
use mathlib.Core.Path.{◌≡◌, refl, sym, ap, ◌∙◌}
use mathlib.Core.List.{◌++◌}
use mathlib.Core.Logic.{◌⊎◌, inl, inr}
use Prim.Native.Nat.{ℕ, suc, ◌+◌, ◌-◌, ◌<◌, ◌≤◌}
use native.Mathlib.Omega.{arith}
use mir.Val.{Fits}
use mir.Syntax.{w8}
use lib.ListN.{length, drop, get_or, length-drop, length-append, drop_of_length-le}
use lib.Seq.{get_or-drop}
use Rattle.meaning.specs.Bytes.{Text, or_empty}
use Rattle.meaning.specs.Limits.{largest_number}
use Rattle.meaning.specs.Number as meaning
use Rattle.meaning.specs.Rows as rows
use Rattle.std.specs.Prelude.{Option, Some, None, Result, Ok, Err}
use Rattle.std.specs.Result.{result_ok}
use Rattle.number.specs.declared.Number.{Number}
use Rattle.number.specs.Reading.{Octets, number_at}
use Rattle.number.proofs.Answers.{number-stands, number-none}
use Rattle.number.proofs.Round.{octets-of, read_only, read_small}
use Rattle.parse.specs.declared.types.Side.{Side}
use Rattle.parse.specs.declared.types.Side.TheVariants.{Absent, Part, Head}
use Rattle.parse.specs.Places.{part_at, side_meant}
use Rattle.parse.proofs.Parts.{part_length}
use Rattle.refusal.specs.declared.Refusal.{Refusal}
use Rattle.list.specs.declared.cursor.Record.{Record}
use Rattle.list.specs.declared.stretch.Stretch.{Stretch}
use Rattle.list.specs.Cursor.{step_at}
use Rattle.list.proofs.Texts.{bytes-taken, bytes-short}
use Rattle.list.proofs.Steps.{Taken, step-taken, step_end, step-refused}
use Rattle.row_fields.specs.declared.RowPlace.{RowPlace}
use Rattle.row_fields.specs.Fields.{row_meant, row_place, destination_place, placed_front, front_at, FrontTaken, FrontSays, DestinationTaken, DestinationSays}
use Rattle.row_fields.specs.Stages.{after_source, after_kind, after_spec, after_item, destination_in, StretchSpells}

-- the answers of `destination_after`
module _ (s : Text) (at n : ℕ) (inside : at ≤ length s) (room : length (meaning.number_bytes n) ≤ at) where
  pub after-short : (n ≡ 0 → ⊥) → length s - at < n - 1 → DestinationSays s (at - length (meaning.number_bytes n)) (rows.destination_after n (drop at s)) None
  after-short z h = let u : n ≡ suc (n - 1) = omega arith in rw (u, bytes-short s at (n - 1) h)

  pub after-present : (n ≡ 0 → ⊥) → n - 1 ≤ length s - at → DestinationSays s (at - length (meaning.number_bytes n)) (rows.destination_after n (drop at s)) (Some (record { value = Part at (n - 1); next = record { at = at + (n - 1) } }))
  after-present z h =
      let u : n ≡ suc (n - 1) = omega arith in (
        record {
          reads = ap (λ (x : ℕ). rows.destination_after x (drop at s)) u ∙ rw (bytes-taken s at (n - 1) (omega arith));
          spelled = rw (← u) (omega arith);
          within = omega arith;
        },
        refl,
      )

-- a number at a place
module _ (s : Text) (at : ℕ) (a : Option Number) (ea : a ≡ number_at s at) where
  pub number-within : (x : Number) → a ≡ Some x → x.next ≤ length s
  number-within x e = (number-stands s at x (sym ea ∙ e)).within

  module _ (bytes : (i : ℕ) → Fits w8 (get_or s i 0)) (x : Number) (e : a ≡ Some x) where
    octets : Octets (drop at s)
    octets i = rw (get_or-drop at s i 0) (octets-of s bytes (at + i))

    pub small-number : x.value ≤ largest_number
    small-number = read_small (drop at s) x.value (drop x.next s) octets (number-stands s at x (sym ea ∙ e)).reads

    -- its bytes are as many as were read
    spelled : at + length (meaning.number_bytes x.value) ≡ x.next
    spelled =
        let w = number-stands s at x (sym ea ∙ e) in
        let q : drop at s ≡ meaning.number_bytes x.value ++ drop x.next s = read_only (drop at s) x.value (drop x.next s) octets w.reads in
        let l : length s - at ≡ length (meaning.number_bytes x.value) + (length s - x.next) = rw (← length-drop at s, ← length-drop x.next s) (ap length q ∙ length-append (meaning.number_bytes x.value) (drop x.next s)) in
        omega (arith, w.from, w.within)

    pub number-room : length (meaning.number_bytes x.value) ≤ x.next
    number-room = omega (arith, spelled)

    -- the answers of `read_destination`
    pub destination-next : (r : Option (Record Side)) → DestinationSays s (x.next - length (meaning.number_bytes x.value)) (rows.destination_after x.value (drop x.next s)) r → DestinationSays s at (rows.read_destination (drop at s)) r
    unfolding rows.read_destination
    destination-next r h =
        let f : x.next - length (meaning.number_bytes x.value) ≡ at = omega (arith, spelled) in
        rw ((number-stands s at x (sym ea ∙ e)).reads, ← f) h

  pub destination-stop : a ≡ None → DestinationSays s at (rows.read_destination (drop at s)) None
  unfolding rows.read_destination
  destination-stop e = rw (number-none s at (sym ea ∙ e))

  -- what is read on after it
  number-next : (g : ℕ → meaning.Reader rows.Row) (x : Number) (r : Option (Record RowPlace)) → a ≡ Some x → FrontSays s (g x.value (drop x.next s)) r → FrontSays s (meaning.step_then (meaning.read_number (drop at s)) g) r
  number-next g x r e h = rw (number-stands s at x (sym ea ∙ e)).reads h

  number-stop : (g : ℕ → meaning.Reader rows.Row) → a ≡ None → FrontSays s (meaning.step_then (meaning.read_number (drop at s)) g) None
  number-stop g e = rw (number-none s at (sym ea ∙ e))

  -- the answers of `after_spec`
  pub kind-next : (i sp : ℕ) (x : Number) (r : Option (Record RowPlace)) → a ≡ Some x → FrontSays s (after_kind i sp x.value (drop x.next s)) r → FrontSays s (after_spec i sp (drop at s)) r
  unfolding after_spec
  kind-next i sp = number-next (after_kind i sp)

  pub kind-stop : (i sp : ℕ) → a ≡ None → FrontSays s (after_spec i sp (drop at s)) None
  unfolding after_spec
  kind-stop i sp = number-stop (after_kind i sp)

  -- the answers of `after_item`
  pub spec-next : (i : ℕ) (x : Number) (r : Option (Record RowPlace)) → a ≡ Some x → FrontSays s (after_spec i x.value (drop x.next s)) r → FrontSays s (after_item i (drop at s)) r
  unfolding after_item
  spec-next i = number-next (after_spec i)

  pub spec-stop : (i : ℕ) → a ≡ None → FrontSays s (after_item i (drop at s)) None
  unfolding after_item
  spec-stop i = number-stop (after_spec i)

  -- the answers of `read_front`
  pub item-next : (x : Number) (r : Option (Record RowPlace)) → a ≡ Some x → FrontSays s (after_item x.value (drop x.next s)) r → FrontSays s (rows.read_front (drop at s)) r
  unfolding rows.read_front after_item after_spec after_kind after_source
  item-next x r e h = rw (number-stands s at x (sym ea ∙ e)).reads h

  pub item-stop : a ≡ None → FrontSays s (rows.read_front (drop at s)) None
  unfolding rows.read_front
  item-stop e = rw (number-none s at (sym ea ∙ e))

-- what is told of a step says which places they are
told-placed : (s : Text) (w : meaning.Step rows.Row) (r : Option (Record RowPlace)) → FrontSays s w r → r ≡ placed_front s w
told-placed s w (Some r) t =
    let l : length s - length (drop r.next.at s) ≡ r.next.at = rw (length-drop r.next.at s) (omega (arith, t.within)) in
    rw (t.reads, l, ← t.placed)
told-placed s w None t = rw t

pub front-placed : (s : Text) (at : ℕ) (r : Option (Record RowPlace)) → FrontSays s (rows.read_front (drop at s)) r → r ≡ front_at s at
unfolding front_at
front-placed s at r t = told-placed s (rows.read_front (drop at s)) r t

-- the places of a row without destination, and of one with a destination of m bytes that begin at a place
none-placed : (s : Text) (i sp k start len next : ℕ) → start + len + length (meaning.number_bytes 0) ≡ next → next ≤ length s →
    let row : RowPlace = record { item = i; spec = sp; kind = k; src = record { at = start; len = len }; dst = Absent } in
    row ≡ row_place next (row_meant s row)
unfolding row_meant row_place
none-placed s i sp k start len next e h =
    let n : length (part_at s start len) ≡ len = part_length s start len (omega arith) in
    let p : next - length (meaning.number_bytes 0) - len ≡ start = omega arith in
    rw (n, p)

some-placed : (s : Text) (i sp k start len at m : ℕ) → start + len + length (meaning.number_bytes (suc m)) ≡ at → at + m ≤ length s →
    let row : RowPlace = record { item = i; spec = sp; kind = k; src = record { at = start; len = len }; dst = Part at m } in
    row ≡ row_place (at + m) (row_meant s row)
unfolding row_meant row_place
some-placed s i sp k start len at m e h =
    let n : length (part_at s start len) ≡ len = part_length s start len (omega arith) in
    let d : length (part_at s at m) ≡ m = part_length s at m h in
    let b : length (meaning.number_bytes (suc m) ++ part_at s at m) ≡ length (meaning.number_bytes (suc m)) + m = length-append (meaning.number_bytes (suc m)) (part_at s at m) ∙ rw d in
    let p : at + m - (length (meaning.number_bytes (suc m)) + m) - len ≡ start = omega arith in
    let q : at + m - m ≡ at = omega arith in
    rw (d, b, n, p, q)

-- a row read on after its source
module _ (s : Text) (i sp k : ℕ) (src : Stretch) (source : src.at + src.len ≤ length s) (small : sp ≤ largest_number) (small-kind : k ≤ largest_number) (d : Option (Record Side)) (says : DestinationSays s (src.at + src.len) (rows.read_destination (drop (src.at + src.len) s)) d) where
  source-taken : (r : Record Side) (dst : Side) → DestinationTaken s (src.at + src.len) (rows.read_destination (drop (src.at + src.len) s)) dst r.next.at → FrontSays s (after_source i sp k (part_at s src.at src.len) (drop (src.at + src.len) s)) (Some (record { value = record { item = i; spec = sp; kind = k; src = src; dst = dst }; next = r.next }))
  unfolding after_source row_meant
  source-taken r Absent t = record {
    reads = rw t.reads;
    placed = none-placed s i sp k src.at src.len r.next.at t.spelled t.within;
    src-within = source;
    dst-within = tt;
    spec-small = small;
    kind-small = small-kind;
    within = t.within;
  }
  source-taken r (Part at n) t = record {
    reads = rw (t.0.reads, t.1);
    placed = rw t.1 (some-placed s i sp k src.at src.len at n t.0.spelled t.0.within);
    src-within = source;
    dst-within = t.0.within;
    spec-small = small;
    kind-small = small-kind;
    within = rw t.1 t.0.within;
  }
  source-taken r Head t = absurd t

  pub source-next : (r : Record Side) → d ≡ Some r → FrontSays s (after_source i sp k (part_at s src.at src.len) (drop (src.at + src.len) s)) (Some (record { value = record { item = i; spec = sp; kind = k; src = src; dst = r.value }; next = r.next }))
  source-next r e = source-taken r r.value (rw e at says)

  pub source-stop : d ≡ None → FrontSays s (after_source i sp k (part_at s src.at src.len) (drop (src.at + src.len) s)) None
  unfolding after_source
  source-stop e =
      let t : rows.read_destination (drop (src.at + src.len) s) ≡ meaning.no 13 = rw e at says in
      rw t

-- a row read on after its kind
module _ (s : Text) (at : ℕ) (w : Result (Option (Record Stretch)) Refusal) (ew : w ≡ step_at s at) where
  module _ (r : Record Stretch) (e : w ≡ Ok (Some r)) where
    stood : Taken s at r.value.at r.value.len r.next.at
    stood = step-taken s at r (sym ew ∙ e)

    pub text-inside : r.value.at + r.value.len ≤ length s
    text-inside = omega (arith, stood.ends, stood.within)

    pub text-next : (i sp k : ℕ) (a : Option (Record RowPlace)) → FrontSays s (after_source i sp k (part_at s r.value.at r.value.len) (drop (r.value.at + r.value.len) s)) a → FrontSays s (after_kind i sp k (drop at s)) a
    unfolding after_kind
    text-next i sp k a g = rw (stood.reads, stood.ends) g

    pub text-ends : r.next.at ≡ r.value.at + r.value.len
    text-ends = stood.ends

  pub text-end : (i sp k : ℕ) → w ≡ Ok None → FrontSays s (after_kind i sp k (drop at s)) None
  unfolding after_kind meaning.read_text meaning.read_number
  text-end i sp k e = rw (drop_of_length-le s (step_end s at (sym ew ∙ e)))

  pub text-stop : (i sp k : ℕ) (x : Refusal) → w ≡ Err x → FrontSays s (after_kind i sp k (drop at s)) None
  unfolding after_kind
  text-stop i sp k x e = rw (step-refused s at x (sym ew ∙ e)).reads

-- what `ok` tells of an answer
ok-some : {A : Type 0} (w : Result A Refusal) (o : A) → result_ok w ≡ Some o → w ≡ Ok o
ok-some (Ok p) o e = let q : p ≡ o = cc in rw q
ok-some (Err x) o e = absurd (let z : ◌≡◌ {A = ℕ} 0 1 = cc in omega arith)

ok-none : {A : Type 0} (w : Result A Refusal) → result_ok w ≡ None → (x : Refusal) × (w ≡ Err x)
ok-none (Ok p) e = absurd (let z : ◌≡◌ {A = ℕ} 0 1 = cc in omega arith)
ok-none (Err x) e = (x, refl)

-- a row, part by part: what is told where a part is not well formed, and where all are
module _ (s : Text) (bytes : (i : ℕ) → Fits w8 (get_or s i 0)) (at : ℕ) (a : Option Number) (ea : a ≡ number_at s at) (x : Number) (ex : a ≡ Some x) (b : Option Number) (eb : b ≡ number_at s x.next) where
  pub no-spec : b ≡ None → FrontSays s (rows.read_front (drop at s)) None
  no-spec e = item-next s at a ea x None ex (spec-stop s x.next b eb x.value e)

  module _ (y : Number) (ey : b ≡ Some y) (c : Option Number) (ec : c ≡ number_at s y.next) where
    pub no-kind : c ≡ None → FrontSays s (rows.read_front (drop at s)) None
    no-kind e = item-next s at a ea x None ex (spec-next s x.next b eb x.value y None ey (kind-stop s y.next c ec x.value y.value e))

    module _ (z : Number) (ez : c ≡ Some z) (w : Result (Option (Record Stretch)) Refusal) (ew : w ≡ step_at s z.next) (v : Option (Option (Record Stretch))) (ev : v ≡ result_ok w) where
      after : (r : Option (Record RowPlace)) → FrontSays s (after_kind x.value y.value z.value (drop z.next s)) r → FrontSays s (rows.read_front (drop at s)) r
      after r h = item-next s at a ea x r ex (spec-next s x.next b eb x.value y r ey (kind-next s y.next c ec x.value y.value z r ez h))

      pub no-source : v ≡ None → FrontSays s (rows.read_front (drop at s)) None
      no-source e = let t = ok-none w (sym ev ∙ e) in after None (text-stop s z.next w ew x.value y.value z.value t.0 t.1)

      pub source-past : (o : Option (Record Stretch)) → v ≡ Some o → o ≡ None → FrontSays s (rows.read_front (drop at s)) None
      source-past o e f = after None (text-end s z.next w ew x.value y.value z.value (ok-some w o (sym ev ∙ e) ∙ ap (λ (k : Option (Record Stretch)). Ok k) f))

      module _ (o : Option (Record Stretch)) (eo : v ≡ Some o) (r : Record Stretch) (fo : o ≡ Some r) (d : Option (Record Side)) (says : DestinationSays s r.next.at (rows.read_destination (drop r.next.at s)) d) where
        er : w ≡ Ok (Some r)
        er = ok-some w o (sym ev ∙ eo) ∙ ap (λ (k : Option (Record Stretch)). Ok k) fo

        inside : r.value.at + r.value.len ≤ length s
        inside = text-inside s z.next w ew r er

        moved : DestinationSays s (r.value.at + r.value.len) (rows.read_destination (drop (r.value.at + r.value.len) s)) d
        moved = let e : r.next.at ≡ r.value.at + r.value.len = text-ends s z.next w ew r er in rw e at says

        small : y.value ≤ largest_number
        small = small-number s x.next b eb bytes y ey

        small-kind : z.value ≤ largest_number
        small-kind = small-number s y.next c ec bytes z ez

        pub no-destination : d ≡ None → FrontSays s (rows.read_front (drop at s)) None
        no-destination e = after None (text-next s z.next w ew r er x.value y.value z.value None (source-stop s x.value y.value z.value r.value inside small small-kind d moved e))

        pub row-read : (q : Record Side) → d ≡ Some q → FrontSays s (rows.read_front (drop at s)) (Some (record { value = record { item = x.value; spec = y.value; kind = z.value; src = r.value; dst = q.value }; next = q.next }))
        row-read q e = let row : Record RowPlace = record { value = record { item = x.value; spec = y.value; kind = z.value; src = r.value; dst = q.value }; next = q.next } in after (Some row) (text-next s z.next w ew r er x.value y.value z.value (Some row) (source-next s x.value y.value z.value r.value inside small small-kind d moved q e))

-- the answers of `destination_at`
module _ (s : Text) (at : ℕ) (a : Option (Record RowPlace)) (says : FrontSays s (rows.read_front (drop at s)) a) where
  module _ (r : Record RowPlace) (e : a ≡ Some r) where
    taken : FrontTaken s (rows.read_front (drop at s)) r.value r.next.at
    taken = rw e at says

    found : (dst : Side) → r.value.dst ≡ dst → destination_in (rows.read_front (drop at s)) ≡ or_empty (side_meant s dst)
    unfolding row_meant
    found dst q = rw (taken.reads, q)

    pub there : (from n : ℕ) → r.value.dst ≡ Part from n → StretchSpells s (destination_in (rows.read_front (drop at s))) (record { at = from; len = n })
    there from n q = let w : from + n ≤ length s = rw q at taken.dst-within in rw (found (Part from n) q) (record { is = refl; within = w })

    absent : r.value.dst ≡ Absent → StretchSpells s (destination_in (rows.read_front (drop at s))) (record { at = 0; len = 0 })
    absent q = rw (found Absent q) (record { is = refl; within = omega arith })

    -- a destination that is read is no supplied `HEAD`
    never-head : {A : Type 0} → r.value.dst ≡ Head → A
    unfolding row_meant row_place
    never-head q =
        let p : r.value.dst ≡ destination_place r.next.at (side_meant s r.value.dst) = ap (λ (x : RowPlace). x.dst) taken.placed in
        let h : Head ≡ destination_place r.next.at (side_meant s Head) = rw q at p in
        absurd (let z : ◌≡◌ {A = ℕ} 0 1 = cc in omega arith)

    pub absent_or_head : (r.value.dst ≡ Absent) ⊎ (r.value.dst ≡ Head) → StretchSpells s (destination_in (rows.read_front (drop at s))) (record { at = 0; len = 0 })
    absent_or_head (inl q) = absent q
    absent_or_head (inr q) = never-head q
