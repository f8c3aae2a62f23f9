use Rattle.std.proofs.Common.{◌≡◌, ◌∷◌, [], true, false, refl, arith}
use Rattle.zr_laws.specs.Examples.{run}
use Rattle.zr_laws.proofs.Words.{no_high_word}
use Rattle.zr_laws.proofs.formats.the_set_of_a_log.Goals as goal

pub returns-clause-anew : goal.returns-clause-anew
returns-clause-anew c = record {
  runs = run 5 1 ∷ (run 7 1 ∷ []);
  cut = (run 5 1 ∷ [], run 7 1 ∷ [], refl, record { cut = (refl, omega arith, omega arith); count = refl }, (run 7 1 ∷ [], [], refl, record { cut = (refl, omega arith, omega arith); count = refl }, refl));
  spelling = record {
    lawful = (record { some = omega arith; most = omega arith; place = omega arith }, (record { some = omega arith; most = omega arith; place = omega arith }, tt));
    spelling = refl;
  };
}

pub returns-clause-twice : goal.returns-clause-twice
returns-clause-twice c = λ es replay. let bad : true ≡ false = (replay.turns 7).1.0 refl in absurd (cc)

pub returns-clause-high : goal.returns-clause-high
returns-clause-high c = no_high_word

pub returns-clause-cut : goal.returns-clause-cut
returns-clause-cut c = record {
  runs = run 100 32768 ∷ (run 32868 7232 ∷ []);
  cut = (run 100 32768 ∷ (run 32868 7232 ∷ []), [], refl, record { cut = (refl, refl, (refl, omega arith, omega arith)); count = refl }, refl);
  spelling = record {
    lawful = (record { some = omega arith; most = omega arith; place = omega arith }, (record { some = omega arith; most = omega arith; place = omega arith }, tt));
    spelling = refl;
  };
}

pub returns-clause-long : goal.returns-clause-long
returns-clause-long c = record {
  runs = run 100 40000 ∷ [];
  cut = (run 100 40000 ∷ [], [], refl, record { cut = (refl, omega arith, omega arith); count = refl }, refl);
  spelling = record {
    lawful = (record { some = omega arith; most = omega arith; place = omega arith }, tt);
    spelling = refl;
  };
}
