use Rattle.std.proofs.Common.{◌≡◌, ◌∙◌, ◌<◌, true, length, sym, ap, subst, arith}
use Rattle.std.proofs.lemmas.List.{length-map}
use Rattle.zr_base.specs.Extents.{has_unit}
use Rattle.zr_rules.specs.Roles.{is_kept_role}
use Rattle.zr_rules.specs.Space.{Space, role_at}
use Rattle.zr_space.specs.Views.{Kept, kept_of, part_in, space_of}
use Rattle.zr_space.proofs.Views.{kept_read}
use Rattle.zr_space.proofs.Discards.{IsGivenUp, account, in_range, short, apart, discarded_space, discards, front_space, front_part, on_err, kept_unit}
use Rattle.zr_space.proofs.Roles.{roles_are}
use Rattle.zr_space.proofs.space.Space.discard_kept.Goals as goal

pub discard-requires-clause-in_range : goal.discard-requires-clause-in_range
discard-requires-clause-in_range c =
    let k : Kept = record { row = c.device.inside.row; uses = c.device.inside.units; moves = c.device.inside.moves } in
    let there : c.args.dev < length c.self.inside.devs.items = let l : c.args.dev < length (space_of c.self.inside.whole c.self.inside.devs.items).parts.devs = subst (λ (s : Space). c.args.dev < length s.parts.devs) (sym c.self.view_is) c.requires.known in let e = length-map c.self.inside.devs.items part_in in omega (arith, l, e) in
    let here : k ≡ kept_of c.self.inside.devs.items c.args.dev = c.device.view_is ∙ kept_read c.self.inside.devs.items c.args.dev c.index_mut-device.result.now there c.index_mut-device.ensures.value in
    let given : IsGivenUp c.self.inside.whole c.self.inside.slabs c.self.inside.devs.items c.args.dev c.args.e k = record {
      space = c.self.invariant;
      known = there;
      some = c.requires.not_empty;
      here = here;
      all = λ u is.
          let kept : is_kept_role (role_at (space_of c.self.inside.whole c.self.inside.devs.items) c.args.dev u) ≡ true = subst (λ (s : Space). is_kept_role (role_at s c.args.dev u) ≡ true) (sym c.self.view_is) (c.requires.kept u is) in
          let role = roles_are c.self.inside.whole c.self.inside.devs.items c.args.dev u c.self.invariant in
          ap (λ (x : Kept). has_unit x.uses.kept u) here ∙ kept_unit (kept_of c.self.inside.devs.items c.args.dev).uses u (sym (ap is_kept_role role) ∙ kept);
    } in
    in_range c.self.inside.whole c.self.inside.slabs c.self.inside.devs.items c.args.dev c.args.e k given

pub discard-requires-clause-kept : goal.discard-requires-clause-kept
discard-requires-clause-kept c =
    let k : Kept = record { row = c.device.inside.row; uses = c.device.inside.units; moves = c.device.inside.moves } in
    let there : c.args.dev < length c.self.inside.devs.items = let l : c.args.dev < length (space_of c.self.inside.whole c.self.inside.devs.items).parts.devs = subst (λ (s : Space). c.args.dev < length s.parts.devs) (sym c.self.view_is) c.requires.known in let e = length-map c.self.inside.devs.items part_in in omega (arith, l, e) in
    let here : k ≡ kept_of c.self.inside.devs.items c.args.dev = c.device.view_is ∙ kept_read c.self.inside.devs.items c.args.dev c.index_mut-device.result.now there c.index_mut-device.ensures.value in
    let given : IsGivenUp c.self.inside.whole c.self.inside.slabs c.self.inside.devs.items c.args.dev c.args.e k = record {
      space = c.self.invariant;
      known = there;
      some = c.requires.not_empty;
      here = here;
      all = λ u is.
          let kept : is_kept_role (role_at (space_of c.self.inside.whole c.self.inside.devs.items) c.args.dev u) ≡ true = subst (λ (s : Space). is_kept_role (role_at s c.args.dev u) ≡ true) (sym c.self.view_is) (c.requires.kept u is) in
          let role = roles_are c.self.inside.whole c.self.inside.devs.items c.args.dev u c.self.invariant in
          ap (λ (x : Kept). has_unit x.uses.kept u) here ∙ kept_unit (kept_of c.self.inside.devs.items c.args.dev).uses u (sym (ap is_kept_role role) ∙ kept);
    } in
    given.all

pub discard-requires-clause-keeping : goal.discard-requires-clause-keeping
discard-requires-clause-keeping c =
    let k : Kept = record { row = c.device.inside.row; uses = c.device.inside.units; moves = c.device.inside.moves } in
    let there : c.args.dev < length c.self.inside.devs.items = let l : c.args.dev < length (space_of c.self.inside.whole c.self.inside.devs.items).parts.devs = subst (λ (s : Space). c.args.dev < length s.parts.devs) (sym c.self.view_is) c.requires.known in let e = length-map c.self.inside.devs.items part_in in omega (arith, l, e) in
    let here : k ≡ kept_of c.self.inside.devs.items c.args.dev = c.device.view_is ∙ kept_read c.self.inside.devs.items c.args.dev c.index_mut-device.result.now there c.index_mut-device.ensures.value in
    let given : IsGivenUp c.self.inside.whole c.self.inside.slabs c.self.inside.devs.items c.args.dev c.args.e k = record {
      space = c.self.invariant;
      known = there;
      some = c.requires.not_empty;
      here = here;
      all = λ u is.
          let kept : is_kept_role (role_at (space_of c.self.inside.whole c.self.inside.devs.items) c.args.dev u) ≡ true = subst (λ (s : Space). is_kept_role (role_at s c.args.dev u) ≡ true) (sym c.self.view_is) (c.requires.kept u is) in
          let role = roles_are c.self.inside.whole c.self.inside.devs.items c.args.dev u c.self.invariant in
          ap (λ (x : Kept). has_unit x.uses.kept u) here ∙ kept_unit (kept_of c.self.inside.devs.items c.args.dev).uses u (sym (ap is_kept_role role) ∙ kept);
    } in
    let a = account c.self.inside.whole c.self.inside.slabs c.self.inside.devs.items c.args.dev c.args.e k given in a.keeping

pub discard-requires-clause-apart : goal.discard-requires-clause-apart
discard-requires-clause-apart c =
    let k : Kept = record { row = c.device.inside.row; uses = c.device.inside.units; moves = c.device.inside.moves } in
    let there : c.args.dev < length c.self.inside.devs.items = let l : c.args.dev < length (space_of c.self.inside.whole c.self.inside.devs.items).parts.devs = subst (λ (s : Space). c.args.dev < length s.parts.devs) (sym c.self.view_is) c.requires.known in let e = length-map c.self.inside.devs.items part_in in omega (arith, l, e) in
    let here : k ≡ kept_of c.self.inside.devs.items c.args.dev = c.device.view_is ∙ kept_read c.self.inside.devs.items c.args.dev c.index_mut-device.result.now there c.index_mut-device.ensures.value in
    let given : IsGivenUp c.self.inside.whole c.self.inside.slabs c.self.inside.devs.items c.args.dev c.args.e k = record {
      space = c.self.invariant;
      known = there;
      some = c.requires.not_empty;
      here = here;
      all = λ u is.
          let kept : is_kept_role (role_at (space_of c.self.inside.whole c.self.inside.devs.items) c.args.dev u) ≡ true = subst (λ (s : Space). is_kept_role (role_at s c.args.dev u) ≡ true) (sym c.self.view_is) (c.requires.kept u is) in
          let role = roles_are c.self.inside.whole c.self.inside.devs.items c.args.dev u c.self.invariant in
          ap (λ (x : Kept). has_unit x.uses.kept u) here ∙ kept_unit (kept_of c.self.inside.devs.items c.args.dev).uses u (sym (ap is_kept_role role) ∙ kept);
    } in
    apart c.self.inside.whole c.self.inside.slabs c.self.inside.devs.items c.args.dev c.args.e k given

pub invariant_of-self : goal.invariant_of-self
invariant_of-self c =
    let k : Kept = record { row = c.device.inside.row; uses = c.device.inside.units; moves = c.device.inside.moves } in
    let there : c.args.dev < length c.self.inside.devs.items = let l : c.args.dev < length (space_of c.self.inside.whole c.self.inside.devs.items).parts.devs = subst (λ (s : Space). c.args.dev < length s.parts.devs) (sym c.self.view_is) c.requires.known in let e = length-map c.self.inside.devs.items part_in in omega (arith, l, e) in
    let here : k ≡ kept_of c.self.inside.devs.items c.args.dev = c.device.view_is ∙ kept_read c.self.inside.devs.items c.args.dev c.index_mut-device.result.now there c.index_mut-device.ensures.value in
    let given : IsGivenUp c.self.inside.whole c.self.inside.slabs c.self.inside.devs.items c.args.dev c.args.e k = record {
      space = c.self.invariant;
      known = there;
      some = c.requires.not_empty;
      here = here;
      all = λ u is.
          let kept : is_kept_role (role_at (space_of c.self.inside.whole c.self.inside.devs.items) c.args.dev u) ≡ true = subst (λ (s : Space). is_kept_role (role_at s c.args.dev u) ≡ true) (sym c.self.view_is) (c.requires.kept u is) in
          let role = roles_are c.self.inside.whole c.self.inside.devs.items c.args.dev u c.self.invariant in
          ap (λ (x : Kept). has_unit x.uses.kept u) here ∙ kept_unit (kept_of c.self.inside.devs.items c.args.dev).uses u (sym (ap is_kept_role role) ∙ kept);
    } in
    front_space c.self.inside.whole c.self.inside.slabs c.self.inside.devs.items c.args.dev c.args.e k given c.discard.new.self c.in_err-discard.ensures.err

pub invariant_of-self-2 : goal.invariant_of-self-2
invariant_of-self-2 c =
    let k : Kept = record { row = c.device.inside.row; uses = c.device.inside.units; moves = c.device.inside.moves } in
    let there : c.args.dev < length c.self.inside.devs.items = let l : c.args.dev < length (space_of c.self.inside.whole c.self.inside.devs.items).parts.devs = subst (λ (s : Space). c.args.dev < length s.parts.devs) (sym c.self.view_is) c.requires.known in let e = length-map c.self.inside.devs.items part_in in omega (arith, l, e) in
    let here : k ≡ kept_of c.self.inside.devs.items c.args.dev = c.device.view_is ∙ kept_read c.self.inside.devs.items c.args.dev c.index_mut-device.result.now there c.index_mut-device.ensures.value in
    let given : IsGivenUp c.self.inside.whole c.self.inside.slabs c.self.inside.devs.items c.args.dev c.args.e k = record {
      space = c.self.invariant;
      known = there;
      some = c.requires.not_empty;
      here = here;
      all = λ u is.
          let kept : is_kept_role (role_at (space_of c.self.inside.whole c.self.inside.devs.items) c.args.dev u) ≡ true = subst (λ (s : Space). is_kept_role (role_at s c.args.dev u) ≡ true) (sym c.self.view_is) (c.requires.kept u is) in
          let role = roles_are c.self.inside.whole c.self.inside.devs.items c.args.dev u c.self.invariant in
          ap (λ (x : Kept). has_unit x.uses.kept u) here ∙ kept_unit (kept_of c.self.inside.devs.items c.args.dev).uses u (sym (ap is_kept_role role) ∙ kept);
    } in
    discarded_space c.self.inside.whole c.self.inside.slabs c.self.inside.devs.items c.args.dev c.args.e k given c.discard.new.self c.in_ok-discard.ensures.ok

pub returns-clause-ok : goal.returns-clause-ok
returns-clause-ok c =
    let k : Kept = record { row = c.device.inside.row; uses = c.device.inside.units; moves = c.device.inside.moves } in
    let there : c.args.dev < length c.self.inside.devs.items = let l : c.args.dev < length (space_of c.self.inside.whole c.self.inside.devs.items).parts.devs = subst (λ (s : Space). c.args.dev < length s.parts.devs) (sym c.self.view_is) c.requires.known in let e = length-map c.self.inside.devs.items part_in in omega (arith, l, e) in
    let here : k ≡ kept_of c.self.inside.devs.items c.args.dev = c.device.view_is ∙ kept_read c.self.inside.devs.items c.args.dev c.index_mut-device.result.now there c.index_mut-device.ensures.value in
    let given : IsGivenUp c.self.inside.whole c.self.inside.slabs c.self.inside.devs.items c.args.dev c.args.e k = record {
      space = c.self.invariant;
      known = there;
      some = c.requires.not_empty;
      here = here;
      all = λ u is.
          let kept : is_kept_role (role_at (space_of c.self.inside.whole c.self.inside.devs.items) c.args.dev u) ≡ true = subst (λ (s : Space). is_kept_role (role_at s c.args.dev u) ≡ true) (sym c.self.view_is) (c.requires.kept u is) in
          let role = roles_are c.self.inside.whole c.self.inside.devs.items c.args.dev u c.self.invariant in
          ap (λ (x : Kept). has_unit x.uses.kept u) here ∙ kept_unit (kept_of c.self.inside.devs.items c.args.dev).uses u (sym (ap is_kept_role role) ∙ kept);
    } in
    rw (← c.self.view_is) (discards c.self.inside.whole c.self.inside.slabs c.self.inside.devs.items c.args.dev c.args.e k given c.discard.new.self c.in_ok-discard.ensures.ok)

pub returns-in_err-discard-clause-err : goal.returns-in_err-discard-clause-err
returns-in_err-discard-clause-err c =
    let k : Kept = record { row = c.device.inside.row; uses = c.device.inside.units; moves = c.device.inside.moves } in
    let there : c.args.dev < length c.self.inside.devs.items = let l : c.args.dev < length (space_of c.self.inside.whole c.self.inside.devs.items).parts.devs = subst (λ (s : Space). c.args.dev < length s.parts.devs) (sym c.self.view_is) c.requires.known in let e = length-map c.self.inside.devs.items part_in in omega (arith, l, e) in
    let here : k ≡ kept_of c.self.inside.devs.items c.args.dev = c.device.view_is ∙ kept_read c.self.inside.devs.items c.args.dev c.index_mut-device.result.now there c.index_mut-device.ensures.value in
    let given : IsGivenUp c.self.inside.whole c.self.inside.slabs c.self.inside.devs.items c.args.dev c.args.e k = record {
      space = c.self.invariant;
      known = there;
      some = c.requires.not_empty;
      here = here;
      all = λ u is.
          let kept : is_kept_role (role_at (space_of c.self.inside.whole c.self.inside.devs.items) c.args.dev u) ≡ true = subst (λ (s : Space). is_kept_role (role_at s c.args.dev u) ≡ true) (sym c.self.view_is) (c.requires.kept u is) in
          let role = roles_are c.self.inside.whole c.self.inside.devs.items c.args.dev u c.self.invariant in
          ap (λ (x : Kept). has_unit x.uses.kept u) here ∙ kept_unit (kept_of c.self.inside.devs.items c.args.dev).uses u (sym (ap is_kept_role role) ∙ kept);
    } in
    on_err c.from_residual.result _ (rw (← c.self.view_is) (front_part c.self.inside.whole c.self.inside.slabs c.self.inside.devs.items c.args.dev c.args.e k given c.discard.new.self c.in_err-discard.ensures.err))

pub returns-clause-small : goal.returns-clause-small
returns-clause-small c =
    let k : Kept = record { row = c.device.inside.row; uses = c.device.inside.units; moves = c.device.inside.moves } in
    let there : c.args.dev < length c.self.inside.devs.items = let l : c.args.dev < length (space_of c.self.inside.whole c.self.inside.devs.items).parts.devs = subst (λ (s : Space). c.args.dev < length s.parts.devs) (sym c.self.view_is) c.requires.known in let e = length-map c.self.inside.devs.items part_in in omega (arith, l, e) in
    let here : k ≡ kept_of c.self.inside.devs.items c.args.dev = c.device.view_is ∙ kept_read c.self.inside.devs.items c.args.dev c.index_mut-device.result.now there c.index_mut-device.ensures.value in
    let given : IsGivenUp c.self.inside.whole c.self.inside.slabs c.self.inside.devs.items c.args.dev c.args.e k = record {
      space = c.self.invariant;
      known = there;
      some = c.requires.not_empty;
      here = here;
      all = λ u is.
          let kept : is_kept_role (role_at (space_of c.self.inside.whole c.self.inside.devs.items) c.args.dev u) ≡ true = subst (λ (s : Space). is_kept_role (role_at s c.args.dev u) ≡ true) (sym c.self.view_is) (c.requires.kept u is) in
          let role = roles_are c.self.inside.whole c.self.inside.devs.items c.args.dev u c.self.invariant in
          ap (λ (x : Kept). has_unit x.uses.kept u) here ∙ kept_unit (kept_of c.self.inside.devs.items c.args.dev).uses u (sym (ap is_kept_role role) ∙ kept);
    } in
    short c.self.inside.whole c.self.inside.slabs c.self.inside.devs.items c.args.dev c.args.e k given

pub returns-in_err-discard-clause-small : goal.returns-in_err-discard-clause-small
returns-in_err-discard-clause-small c =
    let k : Kept = record { row = c.device.inside.row; uses = c.device.inside.units; moves = c.device.inside.moves } in
    let there : c.args.dev < length c.self.inside.devs.items = let l : c.args.dev < length (space_of c.self.inside.whole c.self.inside.devs.items).parts.devs = subst (λ (s : Space). c.args.dev < length s.parts.devs) (sym c.self.view_is) c.requires.known in let e = length-map c.self.inside.devs.items part_in in omega (arith, l, e) in
    let here : k ≡ kept_of c.self.inside.devs.items c.args.dev = c.device.view_is ∙ kept_read c.self.inside.devs.items c.args.dev c.index_mut-device.result.now there c.index_mut-device.ensures.value in
    let given : IsGivenUp c.self.inside.whole c.self.inside.slabs c.self.inside.devs.items c.args.dev c.args.e k = record {
      space = c.self.invariant;
      known = there;
      some = c.requires.not_empty;
      here = here;
      all = λ u is.
          let kept : is_kept_role (role_at (space_of c.self.inside.whole c.self.inside.devs.items) c.args.dev u) ≡ true = subst (λ (s : Space). is_kept_role (role_at s c.args.dev u) ≡ true) (sym c.self.view_is) (c.requires.kept u is) in
          let role = roles_are c.self.inside.whole c.self.inside.devs.items c.args.dev u c.self.invariant in
          ap (λ (x : Kept). has_unit x.uses.kept u) here ∙ kept_unit (kept_of c.self.inside.devs.items c.args.dev).uses u (sym (ap is_kept_role role) ∙ kept);
    } in
    short c.self.inside.whole c.self.inside.slabs c.self.inside.devs.items c.args.dev c.args.e k given
