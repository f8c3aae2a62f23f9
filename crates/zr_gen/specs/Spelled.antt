-- Which commands have lines.
use Rattle.std.specs.Prelude.{ℕ, List}
use Rattle.zr_script.specs.declared.command.Command.{Command}
use Rattle.zr_script.specs.Grammar.{IsLine}

-- some line asks for the command
abbrev pub HasLine : Command → Type 0
HasLine command = (line : List ℕ) × IsLine line command
