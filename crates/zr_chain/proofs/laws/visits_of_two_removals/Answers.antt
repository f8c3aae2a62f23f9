use Rattle.std.proofs.Common.{◌≡◌, ℕ, zero, suc, ◌+◌, ◌<◌, List, [], ◌∷◌, ◌++◌, refl, ap, subst, false, arith}
use Rattle.zr_rules.specs.Mappings.{target}
use Rattle.zr_imap.specs.declared.image.Piece.{Piece as Part}
use Rattle.zr_imap.specs.Searches.{IsImage, piece_target}
use Rattle.zr_rules.specs.Places.{is_gone}
use Rattle.zr_rules.specs.Devices.{state_at}
use Rattle.zr_chain.specs.declared.visit.Visited.{Visited}
use Rattle.zr_chain.specs.declared.visit.Visited.TheVariants.{Piece}
use Rattle.zr_chain.specs.Visits.{AreVisits, parts_behind}
use Rattle.zr_chain.specs.Examples.{removals, first_map, second_map, run}
use Rattle.zr_chain.proofs.laws.visits_of_two_removals.Goals as goal

abbrev first_parts : List Part
first_parts = record { split = 0; dev = 1; at = run 7 3 } ∷ []

abbrev second_parts : List Part
second_parts = record { split = 0; dev = 2; at = run 100 1 } ∷ (record { split = 1; dev = 2; at = run 40 2 } ∷ [])

first_targets : (k : ℕ) → k < 3 → piece_target first_parts k ≡ target first_map (10 + k)
first_targets zero lt = refl
first_targets (suc zero) lt = refl
first_targets (suc (suc zero)) lt = refl
first_targets (suc (suc (suc k))) lt = absurd (omega arith)

second_targets : (k : ℕ) → k < 3 → piece_target second_parts k ≡ target second_map (7 + k)
second_targets zero lt = refl
second_targets (suc zero) lt = refl
second_targets (suc (suc zero)) lt = refl
second_targets (suc (suc (suc k))) lt = absurd (omega arith)

first_image : IsImage first_map (run 10 3) first_parts
first_image = record { follow = (refl, omega arith, refl); targets = first_targets; cut = λ _. refl }

second_image : IsImage second_map (run 7 3) second_parts
second_image = record { follow = (refl, omega arith, (refl, omega arith, refl)); targets = second_targets; cut = λ _. refl }

-- the parts of the first removed device are on one that went later
no_part_there : (qs : List Part) (vs : List Visited) → AreVisits removals (parts_behind 0 qs ++ []) (Piece 0 1 (run 7 3) ∷ vs) → ⊥
no_part_there [] vs h = h
no_part_there (q ∷ qs) vs h =
    let dev : q.dev ≡ 1 = ap (λ (p : Part). p.dev) h.1 in
    let there : is_gone (state_at removals 1) ≡ false = subst (λ (d : ℕ). is_gone (state_at removals d) ≡ false) dev h.0 in
    absurd (cc)

pub returns-clause-parts : goal.returns-clause-parts
returns-clause-parts c = (refl, refl, refl, first_parts, first_image, (refl, refl, refl, second_parts, second_image, (refl, refl, (refl, refl, refl))))

pub returns-clause-hop_first : goal.returns-clause-hop_first
returns-clause-hop_first c = λ vs h. let wrong = h.0 in absurd (cc)

pub returns-clause-whole_chain : goal.returns-clause-whole_chain
returns-clause-whole_chain c = λ vs h. no_part_there h.3 vs h.5
