use Rattle.std.proofs.Common.{codes, inl, refl, arith}
use Rattle.std.specs.Fmt as fmt
use Rattle.hex.specs.Hex as hex
use Rattle.zr_script.specs.Grammar as grammar
use Rattle.zr_script.specs.Words as spelled
use Rattle.zr_laws.proofs.commands.the_commands_of_lines.Goals as goal

pub returns-clause-create : goal.returns-clause-create
unfolding fmt.digits spelled.is_letter spelled.is_digit spelled.is_name_byte spelled.is_path_byte grammar.keyword_of grammar.pool_keyword_of grammar.step_keyword_of
returns-clause-create c = record { short = omega arith; words = inl (codes "1", refl, refl, record { number = record { spelling = refl; bound = omega arith }; some = omega arith }, refl) }

pub returns-clause-rewind : goal.returns-clause-rewind
unfolding fmt.digits spelled.is_letter spelled.is_digit spelled.is_name_byte spelled.is_path_byte grammar.keyword_of grammar.pool_keyword_of grammar.step_keyword_of
returns-clause-rewind c = record { short = omega arith; words = refl }

pub returns-clause-group : goal.returns-clause-group
unfolding fmt.digits spelled.is_letter spelled.is_digit spelled.is_name_byte spelled.is_path_byte grammar.keyword_of grammar.pool_keyword_of grammar.step_keyword_of
returns-clause-group c = record { short = omega arith; words = (codes "3", refl, record { spelling = refl; bound = omega arith }) }

pub returns-clause-make : goal.returns-clause-make
unfolding fmt.digits spelled.is_letter spelled.is_digit spelled.is_name_byte spelled.is_path_byte grammar.keyword_of grammar.pool_keyword_of grammar.step_keyword_of
returns-clause-make c = record { short = omega arith; words = (codes "1", codes "1", refl, record { spelling = refl; bound = omega arith }, record { spelling = refl; bound = omega arith }) }

pub returns-clause-write : goal.returns-clause-write
unfolding hex.decode_pairs fmt.digits spelled.is_letter spelled.is_digit spelled.is_name_byte spelled.is_path_byte grammar.keyword_of grammar.pool_keyword_of grammar.step_keyword_of
returns-clause-write c = record { short = omega arith; words = (codes "1", codes "0", codes "616263", refl, record { spelling = refl; bound = omega arith }, record { spelling = refl; bound = omega arith }, record { digits = refl; some = omega arith; most = omega arith }) }

pub returns-clause-read : goal.returns-clause-read
unfolding fmt.digits spelled.is_letter spelled.is_digit spelled.is_name_byte spelled.is_path_byte grammar.keyword_of grammar.pool_keyword_of grammar.step_keyword_of
returns-clause-read c = record { short = omega arith; words = (codes "1", codes "0", codes "3", refl, record { spelling = refl; bound = omega arith }, record { spelling = refl; bound = omega arith }, record { spelling = refl; bound = omega arith }) }

pub returns-clause-sync : goal.returns-clause-sync
unfolding fmt.digits spelled.is_letter spelled.is_digit spelled.is_name_byte spelled.is_path_byte grammar.keyword_of grammar.pool_keyword_of grammar.step_keyword_of
returns-clause-sync c = record { short = omega arith; words = (refl, refl) }

pub returns-clause-estimate : goal.returns-clause-estimate
unfolding fmt.digits spelled.is_letter spelled.is_digit spelled.is_name_byte spelled.is_path_byte grammar.keyword_of grammar.pool_keyword_of grammar.step_keyword_of
returns-clause-estimate c = record { short = omega arith; words = (refl, refl) }

pub returns-clause-cancel : goal.returns-clause-cancel
unfolding fmt.digits spelled.is_letter spelled.is_digit spelled.is_name_byte spelled.is_path_byte grammar.keyword_of grammar.pool_keyword_of grammar.step_keyword_of
returns-clause-cancel c = record { short = omega arith; words = refl }

pub returns-clause-step : goal.returns-clause-step
unfolding fmt.digits spelled.is_letter spelled.is_digit spelled.is_name_byte spelled.is_path_byte grammar.keyword_of grammar.pool_keyword_of grammar.step_keyword_of
returns-clause-step c = record { short = omega arith; words = refl }
