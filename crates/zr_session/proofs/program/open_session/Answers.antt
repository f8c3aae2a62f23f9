use Rattle.std.proofs.Common.{◌≡◌, inl, inr, IsTrue, sym, ap, subst, ◌∙◌, length, map}
use Rattle.std.specs.List.{list_all}
use Rattle.zr_script.specs.Words.{is_path, are_different}
use Rattle.zr_session.specs.Answers.{paths_in, IsAttached, IsPartlyAttached}
use Rattle.zr_words.specs.Views.{line_of, path_of, device_of}
use Rattle.zr_session.proofs.Devices.{paths_same}
use Rattle.zr_session.proofs.Opening.{opened_by, named_first, by_serving, by_generating}
use Rattle.zr_session.proofs.Telling.{opening_moments, serving_moments, generating_moments}
use Rattle.zr_session.proofs.program.open_session.Goals as goal

pub returns-in-Err-Failed-clause-ends : goal.returns-in-Err-Failed-clause-ends
returns-in-Err-Failed-clause-ends g c = λ t.
    let alike : map device_of c.as_slice-devices.result.now ≡ (line_of c.args.line.now).devs = ap (map device_of) c.as_slice-devices.ensures.value in
    subst (λ devs. IsPartlyAttached devs (g.D.Shelf.world c.args.desk.now).now (g.D.Shelf.world c.attach_all.new.desk).now) alike (c.in-Err-Failed.ensures.partly t)

pub returns-in-Err-NoMemory-clause-ends : goal.returns-in-Err-NoMemory-clause-ends
returns-in-Err-NoMemory-clause-ends g c = λ t.
    let alike : map device_of c.as_slice-devices.result.now ≡ (line_of c.args.line.now).devs = ap (map device_of) c.as_slice-devices.ensures.value in
    inr (inl (subst (λ devs. IsPartlyAttached devs (g.D.Shelf.world c.args.desk.now).now (g.D.Shelf.world c.attach_all.new.desk).now) alike (c.in-Err-NoMemory.ensures.partly t)))

pub generate-requires-clause-paths : goal.generate-requires-clause-paths
generate-requires-clause-paths g c =
    let same : map path_of c.as_slice-devices.result.now ≡ paths_in (line_of c.args.line.now) = ap (map path_of) c.as_slice-devices.ensures.value ∙ sym (paths_same c.args.line.now.devices.items) in
    subst (λ ps. IsTrue (list_all is_path ps)) (sym same) c.requires.paths

pub generate-requires-clause-different : goal.generate-requires-clause-different
generate-requires-clause-different g c =
    let same : map path_of c.as_slice-devices.result.now ≡ paths_in (line_of c.args.line.now) = ap (map path_of) c.as_slice-devices.ensures.value ∙ sym (paths_same c.args.line.now.devices.items) in
    subst (λ ps. IsTrue (are_different ps)) (sym same) c.requires.line.1.different

pub returns-in-Some-clause-ends : goal.returns-in-Some-clause-ends
returns-in-Some-clause-ends g c = λ t.
    let same : map path_of c.as_slice-devices.result.now ≡ paths_in (line_of c.args.line.now) = ap (map path_of) c.as_slice-devices.ensures.value ∙ sym (paths_same c.args.line.now.devices.items) in
    let alike : map device_of c.as_slice-devices.result.now ≡ (line_of c.args.line.now).devs = ap (map device_of) c.as_slice-devices.ensures.value in
    let d : IsAttached (line_of c.args.line.now).devs (g.D.Shelf.world c.args.desk.now).now (g.D.Shelf.world c.attach_all.new.desk).now =
    subst (λ devs. IsAttached devs (g.D.Shelf.world c.args.desk.now).now (g.D.Shelf.world c.attach_all.new.desk).now) alike (c.in-Ok-attach_all.ensures.done t) in
    let s = (g.D.Shelf.sound c.args.desk.now t).paths in
    let z = ap length c.requires.none in
    opened_by g.P.Pool.meaning (line_of c.args.line.now) c.generate.result _ _ _ _ d
    (by_generating g.P.Pool.meaning (line_of c.args.line.now) (c.in-Some.number, c.in-Some.count) _ _ c.generate.result _ _ c.in-Some.is same c.unwrap_or.ensures
    (c.generate.ensures.ends (c.attach_all.ensures.told t) (named_first _ _ _ _ (s ∙ z) d (c.in-Ok-closed.ensures.paths ∙ (c.in-Ok.ensures ∙ same)))))

pub returns-clause-ends : goal.returns-clause-ends
returns-clause-ends g c = λ t.
    let same : map path_of c.as_slice-devices.result.now ≡ paths_in (line_of c.args.line.now) = ap (map path_of) c.as_slice-devices.ensures.value ∙ sym (paths_same c.args.line.now.devices.items) in
    let alike : map device_of c.as_slice-devices.result.now ≡ (line_of c.args.line.now).devs = ap (map device_of) c.as_slice-devices.ensures.value in
    let d : IsAttached (line_of c.args.line.now).devs (g.D.Shelf.world c.args.desk.now).now (g.D.Shelf.world c.attach_all.new.desk).now =
    subst (λ devs. IsAttached devs (g.D.Shelf.world c.args.desk.now).now (g.D.Shelf.world c.attach_all.new.desk).now) alike (c.in-Ok-attach_all.ensures.done t) in
    let s = (g.D.Shelf.sound c.args.desk.now t).paths in
    let z = ap length c.requires.none in
    opened_by g.P.Pool.meaning (line_of c.args.line.now) c.serve.result _ _ _ _ d
    (by_serving g.P.Pool.meaning (line_of c.args.line.now) _ c.serve.result _ _ c.in-None.is c.unwrap_or.ensures
    (c.serve.ensures.ends (c.attach_all.ensures.told t) (named_first _ _ _ _ (s ∙ z) d (c.in-Ok-closed.ensures.paths ∙ (c.in-Ok.ensures ∙ same)))))

pub returns-in-Err-Failed-clause-moments : goal.returns-in-Err-Failed-clause-moments
returns-in-Err-Failed-clause-moments g c = λ t.
    let alike : map device_of c.as_slice-devices.result.now ≡ (line_of c.args.line.now).devs = ap (map device_of) c.as_slice-devices.ensures.value in
    opening_moments g.P.Pool.meaning (line_of c.args.line.now) _ _ _ alike (c.attach_all.ensures.moments t)

pub returns-in-Err-NoMemory-clause-moments : goal.returns-in-Err-NoMemory-clause-moments
returns-in-Err-NoMemory-clause-moments g c = λ t.
    let alike : map device_of c.as_slice-devices.result.now ≡ (line_of c.args.line.now).devs = ap (map device_of) c.as_slice-devices.ensures.value in
    opening_moments g.P.Pool.meaning (line_of c.args.line.now) _ _ _ alike (c.attach_all.ensures.moments t)

pub returns-in-Some-clause-moments : goal.returns-in-Some-clause-moments
returns-in-Some-clause-moments g c = λ t.
    let same : map path_of c.as_slice-devices.result.now ≡ paths_in (line_of c.args.line.now) = ap (map path_of) c.as_slice-devices.ensures.value ∙ sym (paths_same c.args.line.now.devices.items) in
    let alike : map device_of c.as_slice-devices.result.now ≡ (line_of c.args.line.now).devs = ap (map device_of) c.as_slice-devices.ensures.value in
    let d : IsAttached (line_of c.args.line.now).devs (g.D.Shelf.world c.args.desk.now).now (g.D.Shelf.world c.attach_all.new.desk).now =
    subst (λ devs. IsAttached devs (g.D.Shelf.world c.args.desk.now).now (g.D.Shelf.world c.attach_all.new.desk).now) alike (c.in-Ok-attach_all.ensures.done t) in
    let s = (g.D.Shelf.sound c.args.desk.now t).paths in
    let z = ap length c.requires.none in
    generating_moments g.P.Pool.meaning (line_of c.args.line.now) _ _ (c.in-Some.number, c.in-Some.count) _ _ _ _ c.in-Some.is alike same c.unwrap_or.ensures d (c.attach_all.ensures.moments t)
    (c.generate.ensures.moments (c.attach_all.ensures.told t) (named_first _ _ _ _ (s ∙ z) d (c.in-Ok-closed.ensures.paths ∙ (c.in-Ok.ensures ∙ same))))

pub returns-clause-moments : goal.returns-clause-moments
returns-clause-moments g c = λ t.
    let same : map path_of c.as_slice-devices.result.now ≡ paths_in (line_of c.args.line.now) = ap (map path_of) c.as_slice-devices.ensures.value ∙ sym (paths_same c.args.line.now.devices.items) in
    let alike : map device_of c.as_slice-devices.result.now ≡ (line_of c.args.line.now).devs = ap (map device_of) c.as_slice-devices.ensures.value in
    let d : IsAttached (line_of c.args.line.now).devs (g.D.Shelf.world c.args.desk.now).now (g.D.Shelf.world c.attach_all.new.desk).now =
    subst (λ devs. IsAttached devs (g.D.Shelf.world c.args.desk.now).now (g.D.Shelf.world c.attach_all.new.desk).now) alike (c.in-Ok-attach_all.ensures.done t) in
    let s = (g.D.Shelf.sound c.args.desk.now t).paths in
    let z = ap length c.requires.none in
    serving_moments g.P.Pool.meaning (line_of c.args.line.now) _ _ _ _ _ c.in-None.is alike c.unwrap_or.ensures d (c.attach_all.ensures.moments t)
    (c.serve.ensures.moments (c.attach_all.ensures.told t) (named_first _ _ _ _ (s ∙ z) d (c.in-Ok-closed.ensures.paths ∙ (c.in-Ok.ensures ∙ same))))
