use Rattle.std.proofs.Common.{inl, inr, ◌∷◌, refl, Err}
use Rattle.zr_image.specs.Numbers.{Form, broken}
use Rattle.zr_image.specs.Reading.{store_of}
use Rattle.zr_image.proofs.Determined.{streams_one}
use Rattle.zr_image.proofs.laws.streams_are_read_in_their_order.Goals as goal

pub returns-clause-value : goal.returns-clause-value
returns-clause-value c = λ v t a b one other. c.streams_have_one_value.ensures (store_of v) t a b one.small other.small one.stand other.stand

pub returns-clause-one : goal.returns-clause-one
returns-clause-one c = λ v u ts before x y one other. streams_one v u ts before x y one other

pub returns-clause-form : goal.returns-clause-form
returns-clause-form c = λ v u t ts before marks x walk none way.
    streams_one v u (t ∷ ts) before x (Err (broken Form)) way (inr (broken Form, inl (marks, walk, inr (broken Form, (none, refl), refl)), refl))
