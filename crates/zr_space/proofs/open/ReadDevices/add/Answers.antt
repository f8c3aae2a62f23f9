use Rattle.std.proofs.Common.{◌≡◌, ◌∙◌, ◌++◌, ◌∷◌, [], arith, length, List, ap, subst, true, false}
use Rattle.zr_space.specs.Views.{Kept}
use Rattle.zr_space.specs.Reads.{AreSetsOf, CanReadPart, HasMeta, IsReadMapping}
use Rattle.zr_space.specs.Opens.{HasAdded}
use Rattle.zr_space.proofs.Opening.{read_more}
use Rattle.zr_space.proofs.open.ReadDevices.add.Goals as goal

pub read_mapping-requires-clause-small : goal.read_mapping-requires-clause-small
read_mapping-requires-clause-small c =
    let added : HasAdded c.args.self.now.slabs c.read_units.new.slabs c.len-dev.result c.args.part.now.row c.in-Some.units = rw c.in-Some.is at c.in_ok-units.ensures.added in
    added.read.small

pub read_mapping-requires-clause-held : goal.read_mapping-requires-clause-held
read_mapping-requires-clause-held c =
    let sets : AreSetsOf c.args.part.now c.in-Some.units = rw c.in-Some.is at c.in_ok-units.ensures.sets in
    c.held.ensures ∙ sets.held

pub returns-clause-yes : goal.returns-clause-yes
returns-clause-yes c = λ _.
    let p = c.args.part.now in
    let devs : List Kept = c.args.self.now.devs.items in
    let x = c.in-Some.units in
    let m = c.in-Some-2.moves in
    let n = c.len-dev.result in
    let len : n ≡ length devs = let e = c.len-dev.ensures in let o = c.args.self.now.devs.ok.0 in omega (arith, e, o) in
    let sets : AreSetsOf p x = rw c.in-Some.is at c.in_ok-units.ensures.sets in
    let meta : HasMeta c.args.meta.now n x.meta = rw c.in-Some.is at c.in_ok-units.ensures.meta in
    let saved : HasMeta c.args.saved.now n x.saved = rw c.in-Some.is at c.in_ok-units.ensures.saved in
    let added : HasAdded c.args.self.now.slabs c.read_units.new.slabs n p.row x = rw c.in-Some.is at c.in_ok-units.ensures.added in
    let moves : IsReadMapping p m = rw c.in-Some-2.is at c.in_ok-moves.ensures.some in
    let items : c.push_reserved.new.devs.items ≡ devs ++ record { row = p.row; uses = x; moves = m } ∷ [] =
    c.push_reserved.ensures ∙ (ap (λ (xs : List Kept). xs ++ c.new.result ∷ []) c.reserve.ensures.items ∙ ap (λ (k : Kept). devs ++ k ∷ []) c.new.ensures) in
    read_more c.args.self.now.slabs c.read_units.new.slabs devs c.push_reserved.new.devs.items p c.args.meta.now c.args.saved.now x m n len sets meta saved added moves items

pub returns-clause-no : goal.returns-clause-no
returns-clause-no c = λ is. absurd (true_false is)
  where
    true_false : true ≡ false → ⊥
    true_false e = cc

pub returns-in_default-clause-no : goal.returns-in_default-clause-no
returns-in_default-clause-no c = λ _ can.
    let count : length c.args.self.now.devs.items ≡ c.len-dev.result = let e = c.len-dev.ensures in let o = c.args.self.now.devs.ok.0 in omega (arith, e, o) in
    (rw c.in_default.is at c.in_ok-units.ensures.none) (subst (λ n. CanReadPart c.args.part.now c.args.meta.now c.args.saved.now n) count can)

pub returns-in_default-2-clause-no : goal.returns-in_default-2-clause-no
returns-in_default-2-clause-no c = λ _ can. (rw c.in_default-2.is at c.in_ok-moves.ensures.none) can.mapped can.fresh
