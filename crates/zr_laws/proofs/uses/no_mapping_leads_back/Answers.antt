use Rattle.std.proofs.Common.{inl, inr, ◌<◌, arith, []}
use Rattle.std.proofs.lemmas.List.Elements.{All-head}
use Rattle.zr_base.specs.declared.space.Entry.{Entry}
use Rattle.zr_rules.specs.Devices.{devices_of}
use Rattle.zr_rules.specs.Resolve.{IsDestination}
use Rattle.zr_laws.specs.Examples.{chain}
use Rattle.zr_laws.proofs.uses.no_mapping_leads_back.Goals as goal

first : Entry
first = record { src = 10; dev = 1; dst = 7; len = 3 }

pub returns : goal.returns
unfolding first
returns c = λ ranked.
    let there : IsDestination (devices_of (chain 4)) 0 first = All-head (IsDestination (devices_of (chain 4)) 0) first [] (ranked 0) in
    elim there.later [ inl here ↦ absurd (cc) | inr later ↦ let back : 5 < 4 = later.1 in absurd (omega arith) ]
