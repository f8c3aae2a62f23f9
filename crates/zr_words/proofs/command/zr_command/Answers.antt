use Rattle.std.proofs.Common.{rules, ap, ap₂, true, ◌≡◌, ◌∙◌}
use Rattle.std.proofs.lemmas.Result.{IfOk-weaker}
use Rattle.clap.specs.Words.{Shape, app_of, rule_of, with_rule}
use Rattle.clap.specs.Simple.{app_of_fields, on_top}
use Rattle.zr_words.specs.App.{policy_rule, auto_rule, generate_rule, devices_rule, bare}
use Rattle.zr_words.proofs.command.zr_command.Goals as goal

pub returns : goal.returns
returns c =
    let policy_is : rule_of c.long-policy.result ≡ policy_rule = search rules in
    let auto_is : rule_of c.long-auto.result ≡ auto_rule = search rules in
    let generate_is : rule_of c.long-generate.result ≡ generate_rule = search rules in
    let devices_are : rule_of c.action-devices.result ≡ devices_rule = search rules in
    let named_is = ap app_of_fields c.no_binary_name.ensures ∙ ap (on_top (λ (s : Shape). record s { no_binary_name = true })) c.new-5.ensures.app in
    let bare_is : app_of c.disable_help_flag.result ≡ bare = ap app_of_fields c.disable_help_flag.ensures ∙ ap (on_top (λ (s : Shape). record s { disable_help_flag = true })) named_is in
    let one = c.in_ok-arg.ensures.shape (search rules) ∙ ap₂ with_rule bare_is policy_is in
    let two = c.in_ok-arg-2.ensures.shape (search rules) ∙ ap₂ with_rule one auto_is in
    let three = c.in_ok-arg-3.ensures.shape (search rules) ∙ ap₂ with_rule two generate_is in
    IfOk-weaker c.arg-4.result _ _ (λ command h. h.shape (search rules) ∙ ap₂ with_rule three devices_are) c.arg-4.ensures
