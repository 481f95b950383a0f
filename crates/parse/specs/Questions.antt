-- Document 01's questions on one spec in the groups in which the code asks them. proofs/Groups.antt shows that these groups, one after
-- the other, are the list of the meaning, `spec_refusal`.
use Rattle.std.specs.Prelude.{ℕ, zero, suc, Bool, true, false, not, leb, length}
use Rattle.std.proofs.Math.Option.{Option, none, some}
use Rattle.meaning.specs.Bytes.{Text, ◌and◌, ◌or◌, agree, empty, present, if_given}
use Rattle.meaning.specs.Limits.{spec_bytes}
use Rattle.meaning.specs.Names.{side_passes}
use Rattle.meaning.specs.Spec.{◌else◌then◌, Mode, is_negative, push, starred, at_most_one_star, not_hash_like}
use Rattle.name.specs.declared.NameKind.{NameKind}
use Rattle.name.specs.declared.NameKind.TheVariants.{Name, Pattern, Neither}
use Rattle.name.specs.Rules.{kind_of}
use Rattle.parse.specs.declared.questions.Asked.{Asked}
use Rattle.parse.specs.declared.questions.Asked.TheVariants.{Source, Destination}

-- the first refusal of two
infixr 30 ◌or_else◌
abbrev pub ◌or_else◌ : ℕ → ℕ → ℕ
zero or_else m = m
suc n or_else m = suc n

-- 18, 1 and 2, asked of the operation and the whole text
unfoldable pub entry_refusal : ℕ → Text → ℕ
entry_refusal op t =
    leb op 1 else 18 then
    leb (length t) spec_bytes else 1 then
    not (push op and empty t) else 2 then
    0

-- 3 and 4, asked of which sides are there
unfoldable pub shape_refusal : ℕ → Bool → Mode → Bool → Bool → ℕ
shape_refusal op with_colon m with_source with_destination =
    not (is_negative m and with_colon) else 3 then
    not (push op and with_colon and with_source and not with_destination) else 4 then
    0

-- 5 and 6, or 7 and 8, asked of a side that is there; a free one with no star skips the name rules
unfoldable pub text_refusal : ℕ → Bool → Text → ℕ
text_refusal first free t =
    at_most_one_star t else first then
    ((free and not (starred t)) or side_passes t) else suc first then
    0

-- the first of the two questions asked of a side
abbrev pub first_asked : Asked → ℕ
first_asked Source = 5
first_asked Destination = 7

-- 5 and 6, or 7 and 8, asked of a side that may be absent
abbrev pub side_refusal : ℕ → Bool → Option Text → ℕ
side_refusal first free none = 0
side_refusal first free (some t) = text_refusal first free t

-- what a side is by the name rules; an absent one counts as a name
abbrev pub side_name_kind : Option Text → NameKind
side_name_kind none = Name
side_name_kind (some t) = kind_of t

-- the kind that has a star
abbrev pub is_pattern : NameKind → Bool
is_pattern Name = false
is_pattern Pattern = true
is_pattern Neither = false

-- 9, asked of what the sides are: both have a star or neither, unless negative or a push without destination
unfoldable pub kinds_agree : ℕ → Mode → Bool → NameKind → NameKind → Bool
kinds_agree op m with_destination source destination =
    is_negative m or (push op and not with_destination) or agree (is_pattern source) (is_pattern destination)

-- 10 and 11, asked of a negative spec
unfoldable pub negative_refusal : Mode → Option Text → ℕ
negative_refusal m src =
    (not (is_negative m) or present src) else 10 then
    (not (is_negative m) or if_given not_hash_like src) else 11 then
    0
