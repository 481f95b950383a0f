-- One name that opens every definition, for samples that are computed.
use Rattle.meaning.specs.Bytes.{object_id}
use Rattle.meaning.specs.Names.{part_passes, parts_pass, no_two_dots, rule_four_byte, no_controls, rule_five_byte, no_globs, slashes_pass, no_last_dot, no_at_brace, not_at, no_backslash, name_passes, side_passes}
use Rattle.meaning.specs.Spec.{mode_of_byte, supplied, named, spec_from, spec_of, starred, at_most_one_star, exempt, hash_like, not_hash_like, stars_agree, sides_refusal, spec_refusal, read_spec}
use Rattle.meaning.specs.Instruction.{instruction, canonical_text}
use Rattle.meaning.specs.Prefix.{remote_side, name_prefix, prefix, yielded_without, expand_prefixes}
use Rattle.meaning.specs.Number.{number_bytes, text_bytes, record_bytes, read_number, read_bytes, read_text}
use Rattle.meaning.specs.Lists.{read_list, spec_record, item_record, read_specs, read_items}
use Rattle.meaning.specs.Rows.{row_bytes, row_list_of, read_destination, read_front, read_row, object_digits, row_passes, row_record, read_rows}
use Rattle.meaning.specs.Match.{form_of, capture, plain_needle, needle_of, object_source, completed, forward, reverse}
use Rattle.meaning.specs.Listing.{forward_ends, reverse_ends, name_rows, object_rows, excludes, not_excluded, forward_rows, reverse_rows}
use Rattle.meaning.specs.Validation.{differ, destination_of, onto, in_conflict, conflict_on, conflicts, is_full, is_kept, fix_of, verdict, source_bytes, conflict_bytes, fix_bytes}
use Rattle.meaning.specs.Entries.{instructed, prefixed, to_bstring, expanded, IsGroupPrefixes, match_lhs, match_rhs, verdict_on, validated}
use Rattle.meaning.specs.View.{source_view}
use Rattle.meaning.specs.Collide.{target, longer_start, longer_end, literal_in, collision, collide, collide_bytes}
use Rattle.meaning.specs.Deliveries.{decimal, shown_byte, shown, row_line, header, printed, deliveries}

-- to unfold this is to unfold every definition that does not unfold by itself
unfoldable pub everything : Unit {0}
unfolding object_id part_passes parts_pass no_two_dots rule_four_byte no_controls rule_five_byte no_globs slashes_pass no_last_dot no_at_brace not_at no_backslash name_passes side_passes mode_of_byte supplied named spec_from spec_of starred at_most_one_star exempt hash_like not_hash_like stars_agree sides_refusal spec_refusal read_spec instruction canonical_text remote_side name_prefix prefix yielded_without expand_prefixes number_bytes text_bytes record_bytes read_number read_bytes read_text read_list spec_record item_record read_specs read_items row_bytes row_list_of read_destination read_front read_row object_digits row_passes row_record read_rows form_of capture plain_needle needle_of object_source completed forward reverse forward_ends reverse_ends name_rows object_rows excludes not_excluded forward_rows reverse_rows differ destination_of onto in_conflict conflict_on conflicts is_full is_kept fix_of verdict source_bytes conflict_bytes fix_bytes instructed prefixed to_bstring expanded IsGroupPrefixes match_lhs match_rhs verdict_on validated source_view target longer_start longer_end literal_in collision collide collide_bytes decimal shown_byte shown row_line header printed deliveries
everything = tt
