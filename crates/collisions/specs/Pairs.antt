-- What is printed of two specs that can write one destination.
use Rattle.std.specs.Prelude.{ℕ, ◌++◌}
use Rattle.meaning.specs.Bytes.{Text, bytes}
use Rattle.text_program.specs.Output.{in_print, line_named}

-- the lines that they stand on, and the destination
abbrev pub pair_line : ℕ → ℕ → Text → Text
pair_line first second destination = line_named first ++ (bytes " and " ++ (line_named second ++ (bytes " can both write =" ++ (in_print destination ++ bytes "\n"))))
