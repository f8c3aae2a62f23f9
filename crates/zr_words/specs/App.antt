-- The command line as `clap` knows it.
use Rattle.std.specs.Prelude.{codes, Some, true}
use Rattle.clap.specs.Words.{App, Rule, new_app, new_rule, with_rule}
use Rattle.clap.specs.Simple.{on_top}
use Rattle.clap.specs.declared.builder.ArgAction.TheVariants.{Append}

abbrev pub policy_rule : Rule
policy_rule = record (new_rule (codes "policy")) { long = Some (codes "policy") }

abbrev pub auto_rule : Rule
auto_rule = record (new_rule (codes "auto")) { long = Some (codes "auto") }

abbrev pub generate_rule : Rule
generate_rule = record (new_rule (codes "gen")) { long = Some (codes "gen") }

-- each word that is no option
abbrev pub devices_rule : Rule
devices_rule = record (new_rule (codes "devs")) { action = Some Append }

-- the words hold no name of the program, and no flag asks for help
abbrev pub bare : App
bare = on_top (λ s. record s { no_binary_name = true; disable_help_flag = true }) (new_app (codes "zr"))

abbrev pub zr : App
zr = with_rule (with_rule (with_rule (with_rule bare policy_rule) auto_rule) generate_rule) devices_rule
