-- Samples beside the starred table, computed: where document 01 and its readings could be taken differently.
use Rattle.std.specs.Prelude.{ℕ, ◌≡◌, refl, true, false, List, [], ◌∷◌, ◌++◌, length, replicate}
use Rattle.std.proofs.Math.Option.{Option, none, some}
use Rattle.meaning.specs.Bytes.{Text, bytes, byte, plus, equals, In, here, there}
use Rattle.meaning.specs.Spec.{Answer, accepted, refused, Mode, Normal, Force, Negative, Spec, read_spec}
use Rattle.meaning.specs.Buffers.{Outputs}
use Rattle.meaning.specs.Instruction.{fetch_exclude, fetch_and_update, push_all_matching_branches, push_matching, push_exclude}
use Rattle.meaning.specs.Prefix.{GroupPrefixes, candidates}
use Rattle.meaning.specs.Number.{number_bytes, record_bytes, took, no, read_number}
use Rattle.meaning.specs.Lists.{read_specs, read_items}
use Rattle.meaning.specs.Rows.{Row, row_list_of, read_rows}
use Rattle.meaning.specs.Match.{unmapped, mapped, forward, reverse}
use Rattle.meaning.specs.Listing.{forward_rows, reverse_rows}
use Rattle.meaning.specs.Validation.{conflicts, verdict, passing}
use Rattle.meaning.specs.Entries.{instructed, prefixed, to_bstring, expanded, IsGroupPrefixes, match_lhs, match_rhs, validated}
use Rattle.meaning.specs.View.{item_list, spec_list, source_view, view_text, view_numbers}
use Rattle.meaning.specs.Deliveries.{within_limit, deliveries}
use Rattle.meaning.specs.Everything.{everything}

-- an answer of one text, written short
abbrev text : Text → Answer Outputs
text t = accepted (some t ∷ [])

-- a spec, written short
abbrev spec : Mode → Option Text → Option Text → Spec
spec m s d = record { mode = m; source = s; destination = d }

-- a row, written short
abbrev row : ℕ → ℕ → ℕ → Text → Option Text → Row
row i s k a b = record { item = i; spec = s; kind = k; source = a; destination = b }

-- forty letters a, and forty digits of both cases
abbrev lower_digits : Text
lower_digits = replicate 40 (byte "a")

abbrev mixed_digits : Text
mixed_digits = replicate 20 (byte "A") ++ replicate 20 (byte "a")

-- the sample's spec list and item list
abbrev hub : Text
hub = record_bytes (bytes "+refs/heads/*:refs/remotes/hub/*" ∷ bytes "^refs/heads/tmp*" ∷ [])

abbrev codes : Text
codes = record_bytes (bytes "refs/heads/codes" ∷ bytes "refs/heads/tmp1" ∷ [])

-- one spec: `@`, signs, exempt sources, the operation
pub reading :
    (read_spec 2 [] ≡ refused 18 none)
    × (read_spec 0 (bytes "^@") ≡ accepted (spec Negative (some (bytes "HEAD")) none))
    × (read_spec 0 (bytes ":d") ≡ accepted (spec Normal (some (bytes "HEAD")) (some (bytes "d"))))
    × (read_spec 0 (bytes "+") ≡ accepted (spec Force (some (bytes "HEAD")) none))
    × (instructed 1 (bytes "+") ≡ accepted (push_all_matching_branches true))
    × (to_bstring 1 (bytes "+") ≡ text (bytes "+:"))
    × (instructed 1 (bytes ":") ≡ accepted (push_all_matching_branches false))
    × (instructed 1 (bytes "a") ≡ accepted (push_matching (bytes "a") (bytes "a") false))
    × (instructed 1 (bytes "^a") ≡ accepted (push_exclude (bytes "a")))
    × (instructed 0 (bytes "^a") ≡ accepted (fetch_exclude (bytes "a")))
    × (instructed 0 (bytes "+a:b") ≡ accepted (fetch_and_update (bytes "a") (bytes "b") true))
    × (read_spec 1 (bytes "a..b:c") ≡ accepted (spec Normal (some (bytes "a..b")) (some (bytes "c"))))
    × (read_spec 1 (bytes "a..b") ≡ refused 6 none)
    × (read_spec 0 (bytes "a..b:c") ≡ refused 6 none)
    × (read_spec 1 (bytes "a..*:c*") ≡ refused 6 none)
    × (read_spec 1 (bytes ":d*") ≡ refused 9 none)
    × (read_spec 0 (bytes "a*:b**") ≡ refused 7 none)
    × (read_spec 0 (bytes "^a*") ≡ accepted (spec Negative (some (bytes "a*")) none))
unfolding everything
reading = (refl, refl, refl, refl, refl, refl, refl, refl, refl, refl, refl, refl, refl, refl, refl, refl, refl, refl)

-- prefixes: `HEAD`, full names, brackets, object ids, negatives, one-sided pushes
pub prefixes :
    (prefixed 0 [] ≡ accepted (some (bytes "HEAD")))
    × (prefixed 0 (bytes "refs/heads/*:b*") ≡ accepted (some (bytes "refs/heads/")))
    × (prefixed 0 (bytes "refs/a]*:b*") ≡ accepted none)
    × (expanded 0 (bytes "refs/a]*:b*") ≡ text (8 ∷ bytes "refs/a]*"))
    × (expanded 0 (bytes "refs/a]/*:b*") ≡ text [])
    × (prefixed 0 (bytes "refs/a]") ≡ accepted (some (bytes "refs/a]")))
    × (expanded 0 lower_digits ≡ text [])
    × (expanded 0 (bytes "^a") ≡ text [])
    × (expanded 1 (bytes "a") ≡ text [])
    × (expanded 1 (bytes "b:a") ≡ text (record_bytes (candidates (bytes "a"))))
    × (expanded 0 (bytes "a*:b*") ≡ text (record_bytes (candidates (bytes "a*"))))
    × (candidates (bytes "a") ≡ bytes "a" ∷ bytes "refs/a" ∷ bytes "refs/tags/a" ∷ bytes "refs/heads/a" ∷ bytes "refs/remotes/a" ∷ bytes "refs/remotes/a/HEAD" ∷ [])
unfolding everything
prefixes = (refl, refl, refl, refl, refl, refl, refl, refl, refl, refl, refl, refl)

-- the group of one spec that yields `refs/*` alone
abbrev wide : List Spec
wide = spec Normal (some (bytes "refs/*")) (some (bytes "b/*")) ∷ []

-- its prefix list: that prefix, exactly once, and no other
pub prefix-list :
    GroupPrefixes 0 wide (bytes "refs/*" ∷ [])
    × (GroupPrefixes 0 wide [] → ⊥)
    × (GroupPrefixes 0 wide (bytes "refs/*" ∷ bytes "refs/*" ∷ []) → ⊥)
    × (GroupPrefixes 0 wide (bytes "refs/*" ∷ bytes "b" ∷ []) → ⊥)
    × IsGroupPrefixes 0 (10 ∷ bytes "refs/*:b/*") (text (6 ∷ bytes "refs/*"))
    × IsGroupPrefixes 0 (1 ∷ bytes "^") (refused 10 (some 0))
unfolding everything
prefix-list =
    (one, (λ g. missing (g.all (bytes "refs/*") here)), (λ g. g.once.0 here), (λ g. extra (g.only (bytes "b") (there here))), (bytes "refs/*" ∷ [], one, refl), refl)
  where
    one : GroupPrefixes 0 wide (bytes "refs/*" ∷ [])
    one = record { once = ((λ m. elim m [ ]), tt); all = λ t m. m; only = λ t m. m }

    missing : {t : Text} → In t [] → ⊥
    missing m = elim m [ ]

    extra : In (bytes "b") (bytes "refs/*" ∷ []) → ⊥
    extra (there m) = missing m

-- numbers: shortest form, at most three groups
pub numbers :
    (read_number (128 ∷ 1 ∷ 7 ∷ []) ≡ took 128 (7 ∷ []))
    × (read_number (128 ∷ 0 ∷ []) ≡ no 13)
    × (read_number (128 ∷ []) ≡ no 13)
    × (read_number (255 ∷ 255 ∷ 127 ∷ []) ≡ took 2097151 [])
    × (read_number (255 ∷ 255 ∷ 128 ∷ 1 ∷ []) ≡ no 13)
    × (number_bytes 2097151 ≡ 255 ∷ 255 ∷ 127 ∷ [])
    × (number_bytes 127 ≡ 127 ∷ [])
    × (number_bytes 16384 ≡ 128 ∷ 128 ∷ 1 ∷ [])
unfolding everything
numbers = (refl, refl, refl, refl, refl, refl, refl, refl)

-- lists: 18, then 12, then each record: 14, 13, its own
pub lists :
    (read_specs 2 (replicate 65536 0) ≡ refused 18 none)
    × (read_specs 0 (1 ∷ bytes "a" ++ (128 ∷ 0 ∷ [])) ≡ refused 13 (some 1))
    × (read_specs 0 (1 ∷ bytes "a" ++ (2 ∷ bytes "b")) ≡ refused 13 (some 1))
    × (read_specs 0 (1 ∷ bytes "^" ++ (2 ∷ [])) ≡ refused 10 (some 0))
    × (read_specs 0 (replicate 256 0 ++ (9 ∷ [])) ≡ refused 14 (some 256))
    × (read_items (0 ∷ 1 ∷ bytes "a") ≡ accepted ([] ∷ bytes "a" ∷ []))
    × (read_items [] ≡ accepted [])
    × (match_lhs 0 (1 ∷ bytes "^") (replicate 65536 0) ≡ refused 10 (some 0))
    × (match_lhs 0 [] (replicate 65536 0) ≡ refused 12 none)
    × (match_rhs 2 [] [] ≡ refused 18 none)
unfolding everything
lists = (refl, refl, refl, refl, refl, refl, refl, refl, refl, refl)

-- row lists: 13 of a row, then 16 of it, then the next row
pub row-lists :
    (read_rows 1 (0 ∷ 1 ∷ 0 ∷ 0 ∷ 0 ∷ []) ≡ refused 16 (some 0))
    × (read_rows 1 (0 ∷ 0 ∷ 128 ∷ 1 ∷ 0 ∷ 0 ∷ []) ≡ refused 16 (some 0))
    × (read_rows 1 (0 ∷ 0 ∷ 128 ∷ 0 ∷ 0 ∷ 0 ∷ []) ≡ refused 13 (some 0))
    × (read_rows 1 (0 ∷ 1 ∷ 0 ∷ 0 ∷ 9 ∷ []) ≡ refused 13 (some 0))
    × (read_rows 1 (0 ∷ 1 ∷ 0 ∷ 0 ∷ 0 ∷ 9 ∷ []) ≡ refused 16 (some 0))
    × (read_rows 1 (9 ∷ 0 ∷ 0 ∷ 0 ∷ 1 ∷ []) ≡ accepted (row 9 0 0 [] (some []) ∷ []))
    × (read_rows 1 (0 ∷ 0 ∷ 1 ∷ 40 ∷ lower_digits ++ (0 ∷ [])) ≡ accepted (row 0 0 1 lower_digits none ∷ []))
    × (read_rows 1 (0 ∷ 0 ∷ 1 ∷ 40 ∷ mixed_digits ++ (0 ∷ [])) ≡ refused 16 (some 0))
unfolding everything
row-lists = (refl, refl, refl, refl, refl, refl, refl, refl)

-- one spec on one name: completion, partial names, captures that are empty, reverse literally
pub matching :
    (forward (spec Normal (some (bytes "a")) (some (bytes "HEAD"))) (bytes "refs/heads/a") ≡ mapped (some (bytes "refs/heads/HEAD")))
    × (forward (spec Normal (some (bytes "a")) (some (bytes "tags/b"))) (bytes "refs/tags/a") ≡ mapped (some (bytes "refs/tags/b")))
    × (forward (spec Normal (some (bytes "a")) (some (bytes "remotes/b"))) (bytes "refs/remotes/a/HEAD") ≡ mapped (some (bytes "refs/remotes/b")))
    × (forward (spec Normal (some (bytes "a")) (some mixed_digits)) (bytes "a") ≡ mapped (some (bytes "refs/heads/" ++ lower_digits)))
    × (forward (spec Normal (some (bytes "refs/a")) none) (bytes "refs/heads/refs/a") ≡ unmapped)
    × (forward (spec Negative (some (bytes "a")) none) (bytes "refs/heads/a") ≡ unmapped)
    × (forward (spec Normal (some (bytes "a*")) (some (bytes "b*c"))) (bytes "a") ≡ mapped (some (bytes "bc")))
    × (forward (spec Normal (some lower_digits) none) lower_digits ≡ unmapped)
    × (reverse (spec Normal (some (bytes "a")) (some (bytes "b"))) (bytes "refs/heads/b") ≡ none)
    × (reverse (spec Normal (some (bytes "a")) (some (bytes "b"))) (bytes "b") ≡ some (bytes "a"))
    × (reverse (spec Normal (some (bytes "a*c")) (some (bytes "b*"))) (bytes "bxy") ≡ some (bytes "axyc"))
    × (reverse (spec Normal (some (bytes "a")) none) (bytes "a") ≡ none)
unfolding everything
matching = (refl, refl, refl, refl, refl, refl, refl, refl, refl, refl, refl, refl)

-- listings: objects first whatever the items, by spec and then by item, negatives by source name, repeats kept
pub listings :
    (match_lhs 0 hub codes ≡ text (row_list_of (row 1 0 0 (bytes "refs/heads/codes") (some (bytes "refs/remotes/hub/codes")) ∷ [])))
    × (match_rhs 0 hub (record_bytes (bytes "refs/remotes/hub/codes" ∷ bytes "refs/remotes/hub/tmp2" ∷ []))
    ≡ text (row_list_of (row 1 0 0 (bytes "refs/heads/codes") (some (bytes "refs/remotes/hub/codes")) ∷ [])))
    × (match_lhs 0 (record_bytes (bytes "a" ∷ bytes "^a*" ∷ mixed_digits ∷ [])) (record_bytes (bytes "a" ∷ bytes "refs/tags/a" ∷ []))
    ≡ text (row_list_of (row 0 2 1 lower_digits none ∷ row 2 0 0 (bytes "refs/tags/a") none ∷ [])))
    × (forward_rows (spec Normal (some lower_digits) (some (bytes "b")) ∷ []) [] ≡ row 0 0 1 lower_digits (some (bytes "refs/heads/b")) ∷ [])
    × (forward_rows (spec Normal (some (bytes "a")) none ∷ spec Force (some (bytes "a")) none ∷ []) (bytes "a" ∷ bytes "a" ∷ [])
    ≡ row 1 0 0 (bytes "a") none ∷ row 2 0 0 (bytes "a") none ∷ row 1 1 0 (bytes "a") none ∷ row 2 1 0 (bytes "a") none ∷ [])
    × (reverse_rows (spec Normal (some lower_digits) (some (bytes "b")) ∷ spec Negative (some (bytes "b")) none ∷ []) (bytes "b" ∷ []) ≡ row 1 0 0 lower_digits (some (bytes "b")) ∷ [])
unfolding everything
listings = (refl, refl, refl, refl, refl, refl)

-- three rows on `d`, two sources; a partial and a full destination
abbrev clash : List Row
clash = row 1 0 0 (bytes "x") (some (bytes "d")) ∷ row 2 1 0 (bytes "y") (some (bytes "d")) ∷ row 3 1 0 (bytes "x") (some (bytes "d")) ∷ []

abbrev aside : List Row
aside = row 1 0 0 (bytes "x") (some (bytes "d")) ∷ row 2 0 0 (bytes "y") (some (bytes "c")) ∷ row 3 0 0 (bytes "x") none ∷ row 4 0 0 (bytes "x") (some (bytes "HEAD")) ∷ []

-- validation: conflicts before any removal, by byte order of destination, sources as first seen; kept rows and fixes in row order
pub validation :
    (verdict aside ≡ passing (row 3 0 0 (bytes "x") none ∷ row 4 0 0 (bytes "x") (some (bytes "HEAD")) ∷ []) (record { name = bytes "d"; spec = 0 } ∷ record { name = bytes "c"; spec = 0 } ∷ []))
    × (conflicts clash ≡ record { destination = bytes "d"; sources = record { spec = 0; kind = 0; name = bytes "x" } ∷ record { spec = 1; kind = 0; name = bytes "y" } ∷ [] } ∷ [])
    × (conflicts (row 0 0 1 lower_digits (some (bytes "d")) ∷ row 1 0 0 lower_digits (some (bytes "d")) ∷ [])
    ≡ record { destination = bytes "d"; sources = record { spec = 0; kind = 1; name = lower_digits } ∷ record { spec = 0; kind = 0; name = lower_digits } ∷ [] } ∷ [])
    × (validated 0 (record_bytes (bytes "a:b" ∷ bytes "c" ∷ [])) (row_list_of (row 5 0 0 (bytes "x") (some (bytes "e")) ∷ row 6 0 0 (bytes "y") (some (bytes "e")) ∷ clash))
    ≡ accepted
    (some
    (1 ∷ bytes "d" ++ (2 ∷ 0 ∷ 0 ∷ 1 ∷ bytes "x" ++ (1 ∷ 0 ∷ 1 ∷ bytes "y")) ++ (1 ∷ bytes "e" ++ (2 ∷ 0 ∷ 0 ∷ 1 ∷ bytes "x" ++ (0 ∷ 0 ∷ 1 ∷ bytes "y"))))
    ∷ none ∷ []))
    × (validated 0 (record_bytes (bytes "a:b" ∷ [])) (row_list_of aside) ≡ accepted (some (row_list_of (row 3 0 0 (bytes "x") none ∷ row 4 0 0 (bytes "x") (some (bytes "HEAD")) ∷ [])) ∷ some (1 ∷ bytes "d" ++ (0 ∷ 1 ∷ bytes "c" ++ (0 ∷ []))) ∷ []))
    × (validated 0 (1 ∷ bytes "a") [] ≡ accepted (some [] ∷ some [] ∷ []))
unfolding everything
validation = (refl, refl, refl, refl, refl, refl)

-- an object source with a sign before it, second in its list
abbrev ids : Text
ids = record_bytes (bytes "a" ∷ (plus ∷ mixed_digits ++ bytes ":b") ∷ [])

-- the source view: which list, which place, which bytes; 16 and the empty part
pub views :
    (source_view 0 ids codes 0 1 ≡ accepted (record { list = spec_list; start = 4; size = 40 }))
    × (view_text (source_view 0 ids codes 0 1) ids codes ≡ mixed_digits)
    × (source_view 0 hub codes 2 1 ≡ accepted (record { list = item_list; start = 18; size = 15 }))
    × (view_text (source_view 0 hub codes 2 1) hub codes ≡ bytes "refs/heads/tmp1")
    × (source_view 0 hub codes 0 0 ≡ refused 16 none)
    × (source_view 0 hub codes 3 0 ≡ refused 16 none)
    × (source_view 0 hub codes 1 2 ≡ refused 16 none)
    × (view_text (source_view 0 hub codes 1 2) hub codes ≡ [])
    × (view_numbers (source_view 0 ids codes 0 1) ≡ record { refusal = 0; record_number = 0; list = 1; start = 4; size = 40 })
    × (view_numbers (source_view 0 (0 ∷ 1 ∷ bytes "^") codes 0 1) ≡ record { refusal = 10; record_number = 1; list = 0; start = 0; size = 0 })
    × (source_view 0 (0 ∷ 1 ∷ bytes "^") (replicate 65536 0) 0 1 ≡ refused 10 (some 1))
unfolding everything
views = (refl, refl, refl, refl, refl, refl, refl, refl, refl, refl, refl)

-- the program: document 01's own sample, an absent item, escapes, refusals
pub program :
    (deliveries (number_bytes (length hub) ++ (hub ++ codes)) ≡ bytes "item\tspec\tkind\tsource\tdestination\n0\t0\tname\t=refs/heads/codes\t=refs/remotes/hub/codes\n")
    × (deliveries (0 ∷ []) ≡ bytes "item\tspec\tkind\tsource\tdestination\n")
    × (deliveries (41 ∷ 40 ∷ lower_digits) ≡ bytes "item\tspec\tkind\tsource\tdestination\n-\t0\tobject\t=aaaaaaaaaaaaaaaaaaaaaaaaaaaaaaaaaaaaaaaa\t-\n")
    × (deliveries (6 ∷ 5 ∷ bytes "a*:b*" ++ (5 ∷ bytes "a% " ++ (255 ∷ equals ∷ []))) ≡ bytes "item\tspec\tkind\tsource\tdestination\n0\t0\tname\t=a%25%20%FF=\t=b%25%20%FF=\n")
    × (deliveries [] ≡ bytes "refused 13\n")
    × (deliveries (5 ∷ []) ≡ bytes "refused 13\n")
    × (deliveries (2 ∷ 1 ∷ bytes "^") ≡ bytes "refused 10\n")
    × (deliveries (replicate 65537 0) ≡ bytes "refused 12\n")
    × (within_limit (replicate 65536 (byte "a")) ≡ accepted (replicate 65536 (byte "a")))
    × (within_limit (replicate 65537 (byte "a")) ≡ refused 17 none)
unfolding everything
program = (refl, refl, refl, refl, refl, refl, refl, refl, refl, refl)

-- the name rules, on either side of each
pub names :
    (read_spec 0 (bytes "a/b.c") ≡ accepted (spec Normal (some (bytes "a/b.c")) none))
    × (read_spec 0 (bytes "a.lock/b") ≡ refused 6 none)
    × (read_spec 0 (bytes "a/.b") ≡ refused 6 none)
    × (read_spec 0 (bytes "a.") ≡ refused 6 none)
    × (read_spec 0 (bytes "a//b") ≡ refused 6 none)
    × (read_spec 0 (bytes "/a") ≡ refused 6 none)
    × (read_spec 0 (bytes "a/") ≡ refused 6 none)
    × (read_spec 0 (bytes "a@{b") ≡ refused 6 none)
    × (read_spec 0 (bytes "a@") ≡ accepted (spec Normal (some (bytes "a@")) none))
    × (read_spec 0 (bytes "a b") ≡ refused 6 none)
    × (read_spec 0 (byte "a" ∷ 127 ∷ []) ≡ refused 6 none)
    × (read_spec 0 (byte "a" ∷ 31 ∷ []) ≡ refused 6 none)
    × (read_spec 0 (byte "a" ∷ 128 ∷ []) ≡ accepted (spec Normal (some (byte "a" ∷ 128 ∷ [])) none))
    × (read_spec 0 (bytes "a?") ≡ refused 6 none)
    × (read_spec 0 (bytes "a[") ≡ refused 6 none)
    × (read_spec 0 (bytes "a\\") ≡ refused 6 none)
    × (read_spec 0 (bytes "a~") ≡ refused 6 none)
    × (read_spec 0 (bytes "a/*.lock:b*") ≡ refused 6 none)
unfolding everything
names = (refl, refl, refl, refl, refl, refl, refl, refl, refl, refl, refl, refl, refl, refl, refl, refl, refl, refl)
