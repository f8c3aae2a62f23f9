-- What is spelled by words is spelled by equal words.
use Rattle.std.proofs.Common.{◌≡◌, ℕ, List, subst}
use Rattle.zr_base.specs.declared.space.CkptPart.{CkptPart}
use Rattle.zr_meta.specs.declared.map.Mapping.{Mapping}
use Rattle.zr_meta.specs.declared.log.Sets.{Sets}
use Rattle.zr_meta.specs.Streams.{SpellsMapping, SpellsSets}

pub mapping_at : (a b c d : List ℕ) (m : Mapping) → a ≡ c → b ≡ d → SpellsMapping a b m → SpellsMapping c d m
mapping_at a b c d m e f h = subst (λ (x : List ℕ). SpellsMapping x d m) e (subst (λ (x : List ℕ). SpellsMapping a x m) f h)

pub sets_at : (version dev units : ℕ) (ckpt : CkptPart) (a b c d : List ℕ) (s : Sets) → a ≡ c → b ≡ d → SpellsSets version dev units ckpt a b s → SpellsSets version dev units ckpt c d s
sets_at version dev units ckpt a b c d s e f h =
    subst (λ (x : List ℕ). SpellsSets version dev units ckpt x d s) e (subst (λ (x : List ℕ). SpellsSets version dev units ckpt a x s) f h)
