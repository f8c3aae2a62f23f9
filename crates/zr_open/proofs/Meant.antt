-- What a root means, found again in what the disks show.
use Rattle.std.proofs.Common.{◌≡◌, inl, inr, ℕ, List, [], ◌∷◌, ◌++◌, Option, Some, None, Result, Ok, Err, refl, sym, ◌∙◌, ap, subst, append_assoc, append-nil}
use Rattle.zr_base.specs.declared.refusal.Refusal.{Refusal}
use Rattle.zr_base.specs.declared.refusal.Refusal.TheVariants as refusal
use Rattle.zr_base.specs.declared.space.SpaceParts.{SpaceParts}
use Rattle.zr_bptr.specs.declared.Bptr.{Bptr}
use Rattle.zr_image.specs.Checks.{Each}
use Rattle.zr_image.specs.Current.{FindsCurrent, ShowsAll, slots_of}
use Rattle.zr_image.specs.Reading.{bare_devices, store_of}
use Rattle.zr_image.specs.Roots.{Root, head_tree, rows_of, IsSavedUber, ReadsHead, ReadsStream, ReadsParts, ReadsRoot, ReadsSaved, OpensRoot}
use Rattle.zr_image.specs.StateOf.{IsPart, Means, OpensShelf, StateOf}
use Rattle.zr_image.proofs.Walking.{given}
use Rattle.zr_import.specs.Words.{HaveWords, ReadsMeta}
use Rattle.zr_label.specs.declared.root.Seen.{Seen}
use Rattle.zr_label.specs.declared.root.Uber.{Uber}
use Rattle.zr_meta.specs.Heads.{IsHead, head_bytes}
use Rattle.zr_meta.specs.declared.Head.{Head}
use Rattle.zr_meta.specs.declared.Stream.{Stream}
use Rattle.zr_model.specs.State.{PoolState, Is}
use Rattle.zr_root.specs.Streams.{HasBytes}
use Rattle.zr_store.specs.Store.{Stored}
use Rattle.zr_view.specs.Views.{View}
use Rattle.zr_open.specs.Shown.{IsShownRoot, IsShownBeside, Shows}

abbrev bare : List (List ℕ) → List (Option ℕ) → Uber → View
bare disks slots u = record { disks = disks; slots = slots; devices = bare_devices u }

-- ---- the words of the streams

record Words (s : Stored) (streams : List Stream) (before after : List ℕ) : Type 0 where
  pub own : List ℕ
  pub have : HaveWords s streams own
  pub added : after ≡ before ++ own

module _ (v : View) (u : Uber) where
  one_stream : (t : Stream) (before after : List ℕ × List Bptr) → ReadsStream v u t before (Ok after) → Words (store_of v) (t ∷ []) before.0 after.0
  one_stream t before after (inl (marks, walk, inl (words, stand, is))) = record {
    own = words;
    have = (words, ([], (sym (append-nil words), (stand.stand, refl))));
    added = ap (λ (p : List ℕ × List Bptr). p.0) (given (before.0 ++ words, marks) after is);
  }
  one_stream t before after (inl (marks, walk, inr (r, told, is))) = absurd (cc)
  one_stream t before after (inr (r, told, is)) = absurd (cc)

  all_streams : (ts : List Stream) (before after : List ℕ × List Bptr) → Each (ReadsStream v u) ts before (Ok after) → Words (store_of v) ts before.0 after.0
  all_streams [] before after is = record { own = []; have = refl; added = ap (λ (p : List ℕ × List Bptr). p.0) (given before after is) ∙ sym (append-nil before.0) }
  all_streams (t ∷ ts) before after (inl (mid, first, rest)) =
      let one = one_stream t before mid first in
      let more = all_streams ts mid after rest in
      let own = one.have.0 in
      let same : one.own ≡ own = one.have.1.1.0 ∙ ap (λ (xs : List ℕ). own ++ xs) one.have.1.1.1.1 ∙ append-nil own in
      record {
        own = own ++ more.own;
        have = (own, (more.own, (refl, (one.have.1.1.1.0, more.have))));
        added = more.added ∙ ap (λ (xs : List ℕ). xs ++ more.own) (one.added ∙ ap (λ (xs : List ℕ). before.0 ++ xs) same) ∙ append_assoc before.0 own more.own;
      }
  all_streams (t ∷ ts) before after (inr (r, told, is)) = absurd (cc)

-- ---- one root

-- the head, and what its streams record
record RootReads (disks : List (List ℕ)) (slots : List (Option ℕ)) (u : Uber) (r : Root) : Type 0 where
  pub uber : r.uber ≡ u
  pub lawful : IsHead (rows_of u) r.head
  pub reads : ReadsMeta (store_of (bare disks slots u)) u r.head r.parts

module _ (disks : List (List ℕ)) (slots : List (Option ℕ)) (u : Uber) where
  record HeadReads (h : Head) : Type 0 where
    pub lawful : IsHead (rows_of u) h
    pub bytes : HasBytes (store_of (bare disks slots u)) (head_tree u) (head_bytes h)

  head_reads : (found : Head × List Bptr) → ReadsHead (bare disks slots u) u (Ok found) → HeadReads found.0
  head_reads found (inl (marks, walk, inl (h, is_head, is))) =
      let same = given (h, marks) found is in
      subst (λ (p : Head × List Bptr). HeadReads p.0) (sym same)
      (record { lawful = is_head.spelled.lawful; bytes = subst (HasBytes (store_of (bare disks slots u)) (head_tree u)) is_head.spelled.spelling is_head.read })
  head_reads found (inl (marks, walk, inr (r, told, is))) = absurd (cc)
  head_reads found (inr (r, told, is)) = absurd (cc)

  meta_reads : (h : Head) (words : List ℕ) (meta : List Bptr) (parts : SpaceParts) → HeadReads h → HaveWords (store_of (bare disks slots u)) h.streams words → ReadsParts u h words meta (Ok parts) → ReadsMeta (store_of (bare disks slots u)) u h parts
  meta_reads h words meta parts head have (inl (m, mappings, inl (spelled, spells, inl (a, apart, inl (l, lawful, is))))) =
      record { head = head.bytes; words = words; streams = have; parts = spelled; spelled = spells; counted_is = given _ parts is }
  meta_reads h words meta parts head have (inl (m, mappings, inl (spelled, spells, inl (a, apart, inr (r, told, is))))) = absurd (cc)
  meta_reads h words meta parts head have (inl (m, mappings, inl (spelled, spells, inr (r, told, is)))) = absurd (cc)
  meta_reads h words meta parts head have (inl (m, mappings, inr (r, told, is))) = absurd (cc)
  meta_reads h words meta parts head have (inr (r, told, is)) = absurd (cc)

  root_reads : (r : Root) → ReadsRoot disks slots u (Ok r) → RootReads disks slots u r
  root_reads r (inl (head, reads_head, inl (streams, each, inl (parts, reads_parts, inl (live, walk, is))))) =
      let h = head_reads head reads_head in
      let words = all_streams (bare disks slots u) u head.0.streams ([], head.1) streams each in
      let have = subst (HaveWords (store_of (bare disks slots u)) head.0.streams) (sym words.added) words.have in
      subst (RootReads disks slots u) (sym (given _ r is)) (record { uber = refl; lawful = h.lawful; reads = meta_reads head.0 streams.0 streams.1 parts h have reads_parts })
  root_reads r (inl (head, reads_head, inl (streams, each, inl (parts, reads_parts, inr (e, told, is))))) = absurd (cc)
  root_reads r (inl (head, reads_head, inl (streams, each, inr (e, told, is)))) = absurd (cc)
  root_reads r (inl (head, reads_head, inr (e, told, is))) = absurd (cc)
  root_reads r (inr (e, told, is)) = absurd (cc)

shown_root : (disks : List (List ℕ)) (slots : List (Option ℕ)) (u : Uber) (r : Root) → RootReads disks slots u r → IsShownRoot disks slots r
shown_root disks slots u r reads = record {
  head = subst (λ (v : Uber). IsHead (rows_of v) r.head) (sym reads.uber) reads.lawful;
  reads = subst (λ (v : Uber). ReadsMeta (store_of (bare disks slots v)) v r.head r.parts) (sym reads.uber) reads.reads;
}

-- ---- the saved root

saved_shown : (disks : List (List ℕ)) (slots : List (Option ℕ)) (r : Root) (o : Option (List ℕ)) (saved : Option Root) → ReadsSaved disks slots r o (Ok saved) → IsShownBeside disks slots r o saved
saved_shown disks slots r None saved is = subst (IsShownBeside disks slots r None) (sym (given None saved is)) tt
saved_shown disks slots r (Some block) saved (inl (v, spelled, inl (s, under, inl (b, balanced, inl (m, room, inl (t, together, is)))))) =
    let reads = root_reads disks slots v s under in
    subst (IsShownBeside disks slots r (Some block)) (sym (given (Some s) saved is)) (subst (IsSavedUber r block) (sym reads.uber) spelled, shown_root disks slots v s reads)
saved_shown disks slots r (Some block) saved (inl (v, spelled, inl (s, under, inl (b, balanced, inl (m, room, inr (e, told, is)))))) = absurd (cc)
saved_shown disks slots r (Some block) saved (inl (v, spelled, inl (s, under, inl (b, balanced, inr (e, told, is))))) = absurd (cc)
saved_shown disks slots r (Some block) saved (inl (v, spelled, inl (s, under, inr (e, told, is)))) = absurd (cc)
saved_shown disks slots r (Some block) saved (inl (v, spelled, inr (e, told, is))) = absurd (cc)
saved_shown disks slots r (Some block) saved (inr (e, told, is)) = absurd (cc)

record RootOpens (disks : List (List ℕ)) (slots : List (Option ℕ)) (u : Uber) (r : Root) (saved : Option Root) : Type 0 where
  pub reads : RootReads disks slots u r
  pub beside : IsShownBeside disks slots r r.head.saved saved

root_opens : (disks : List (List ℕ)) (slots : List (Option ℕ)) (u : Uber) (r : Root) (saved : Option Root) → OpensRoot disks slots u (Ok (r, saved)) → RootOpens disks slots u r saved
root_opens disks slots u r saved (inl (q, reads, inl (b, balanced, inl (other, reads_saved, inl (m, room, is))))) =
    let same = given (q, other) (r, saved) is in
    subst (λ (p : Root × Option Root). RootOpens disks slots u p.0 p.1) (sym same) (record { reads = root_reads disks slots u q reads; beside = saved_shown disks slots q q.head.saved other reads_saved })
root_opens disks slots u r saved (inl (q, reads, inl (b, balanced, inl (other, reads_saved, inr (e, told, is))))) = absurd (cc)
root_opens disks slots u r saved (inl (q, reads, inl (b, balanced, inr (e, told, is)))) = absurd (cc)
root_opens disks slots u r saved (inl (q, reads, inr (e, told, is))) = absurd (cc)
root_opens disks slots u r saved (inr (e, told, is)) = absurd (cc)

-- ---- the whole shelf

not_refused : (paths disks : List (List ℕ)) (seen : List Seen) (r : Refusal) (p : PoolState) → IsPart paths disks seen (Err r) (Is p) → ⊥
not_refused paths disks seen refusal.NoPoolOnDevices p is = cc
not_refused paths disks seen r p is = cc

module _ (paths disks : List (List ℕ)) (p : PoolState) (seen : List Seen) (shown : ShowsAll disks seen) where
  by_root : (u : Uber) → FindsCurrent seen (Ok u) → (r : Root) (saved : Option Root) → RootOpens disks (slots_of u seen) u r saved → Means paths disks (slots_of r.uber seen) r saved p → Shows paths disks p
  by_root u current r saved opens means =
      let uber = opens.reads.uber in
      record {
        seen = seen;
        shown = shown;
        root = r;
        current = subst (λ (v : Uber). FindsCurrent seen (Ok v)) (sym uber) current;
        stands = subst (λ (v : Uber). IsShownRoot disks (slots_of v seen) r) (sym uber) (shown_root disks (slots_of u seen) u r opens.reads);
        saved = saved;
        beside = subst (λ (v : Uber). IsShownBeside disks (slots_of v seen) r r.head.saved saved) (sym uber) opens.beside;
        means = means;
      }

  by_outcome : (outcome : Result (Root × Option Root) Refusal) → OpensShelf disks seen outcome → IsPart paths disks seen outcome (Is p) → Shows paths disks p
  by_outcome (Err r) opens part = absurd (not_refused paths disks seen r p part)
  by_outcome (Ok roots) (inl (u, current, opens)) part = by_root u current roots.0 roots.1 (root_opens disks (slots_of u seen) u roots.0 roots.1 opens) part
  by_outcome (Ok roots) (inr (r, told, is)) part = absurd (cc)

pub meant : (paths disks : List (List ℕ)) (p : PoolState) → StateOf paths disks (Is p) → Shows paths disks p
meant paths disks p state = by_outcome paths disks p state.seen state.shows state.shelf.outcome state.shelf.opens state.shelf.part_is
