use Rattle.zr_tables.proofs.Staying.{reading_stays}
use Rattle.std.proofs.Common.{◌≡◌, ◌∙◌, ℕ, List, map, refl, sym, ap, ap₂, subst}
use Rattle.std.specs.Prelude.{slice_index}
use Rattle.zr_audit.specs.Found.{found, allocated_units, AreMeta}
use Rattle.zr_base.specs.declared.space.Dva.{Dva}
use Rattle.zr_rules.specs.Equation.{Adds}
use Rattle.zr_rules.specs.Space.{Space}
use Rattle.zr_script.specs.declared.reply.AuditLine.{AuditLine}
use Rattle.zr_sync.specs.declared.open.OpenPool.{OpenPool}
use Rattle.zr_sync.proofs.Disks.{works_still}
use Rattle.zr_tables.specs.Audits.{concrete, metadata_of}
use Rattle.zr_tables.proofs.MetMeta.{meta_met}
use Rattle.zr_tables.proofs.Read.{read_adds_up}
use Rattle.zr_tables.proofs.Lines.{as_many, indices_are, walked_are, allocated_are, read_each}
use Rattle.zr_tables.proofs.audits.audit.Goals as goal

pub returns-in_err-met-clause-disks : goal.returns-in_err-met-clause-disks
returns-in_err-met-clause-disks g c = λ told. works_still _ _ (c.meet_all.ensures.reads.still told)

pub returns-in_err-counted-clause-disks : goal.returns-in_err-counted-clause-disks
returns-in_err-counted-clause-disks g c = λ told. works_still _ _ (c.meet_all.ensures.reads.still told)

pub returns-in_err-lines_of-clause-disks : goal.returns-in_err-lines_of-clause-disks
returns-in_err-lines_of-clause-disks g c = λ told. works_still _ _ (c.meet_all.ensures.reads.still told)

pub returns-clause-disks : goal.returns-clause-disks
returns-clause-disks g c = λ told. works_still _ _ (c.meet_all.ensures.reads.still told)

pub lines_of-requires-clause-walked : goal.lines_of-requires-clause-walked
lines_of-requires-clause-walked g c = as_many c.meet_all.new.pool.space c.meet_all.new.pool.space (found c.meet_all.new.pool.space c.as_slice.result.now c.as_slice-2.result.now) c.in_ok-counted.counted.walked refl c.in_ok-counted.ensures.found

pub lines_of-requires-clause-allocated : goal.lines_of-requires-clause-allocated
lines_of-requires-clause-allocated g c = as_many c.meet_all.new.pool.space c.meet_all.new.pool.space (allocated_units c.meet_all.new.pool.space) c.in_ok-counted.counted.allocated refl c.in_ok-counted.ensures.allocated

pub returns-clause-indices : goal.returns-clause-indices
returns-clause-indices g c =
    let same : c.meet_all.new.pool.space ≡ c.args.pool.now.space = ap (λ (p : OpenPool). p.space) c.meet_all.ensures.same in
    ap (map (λ (l : AuditLine). l.index)) c.in_ok-lines_of.ensures.lines ∙ (indices_are c.meet_all.new.pool.space c.in_ok-counted.counted.walked c.in_ok-counted.counted.allocated ∙ ap concrete same)

pub returns-clause-allocated : goal.returns-clause-allocated
returns-clause-allocated g c =
    let same : c.meet_all.new.pool.space ≡ c.args.pool.now.space = ap (λ (p : OpenPool). p.space) c.meet_all.ensures.same in
    ap (map (λ (l : AuditLine). l.allocated)) c.in_ok-lines_of.ensures.lines
    ∙ (allocated_are c.meet_all.new.pool.space c.in_ok-counted.counted.walked c.in_ok-counted.counted.allocated
    ∙ (read_each c.meet_all.new.pool.space (allocated_units c.meet_all.new.pool.space) c.in_ok-counted.counted.allocated c.in_ok-counted.ensures.allocated ∙ ap (λ (s : Space). map (allocated_units s) (concrete s)) same))

pub returns-clause-walked : goal.returns-clause-walked
returns-clause-walked g c = λ s holds.
    let same : c.meet_all.new.pool.space ≡ c.args.pool.now.space = ap (λ (p : OpenPool). p.space) c.meet_all.ensures.same in
    let live = c.as_slice.ensures.value in
    let metadata = c.as_slice-2.ensures.value ∙ c.in_ok-met.ensures.metadata s holds in
    record {
      live = c.in_ok-met.met.live.items;
      are_live = c.in_ok-met.ensures.live s holds;
      units = ap (map (λ (l : AuditLine). l.walked)) c.in_ok-lines_of.ensures.lines
          ∙ (walked_are c.meet_all.new.pool.space c.in_ok-counted.counted.walked c.in_ok-counted.counted.allocated
          ∙ (read_each c.meet_all.new.pool.space (found c.meet_all.new.pool.space c.as_slice.result.now c.as_slice-2.result.now) c.in_ok-counted.counted.walked c.in_ok-counted.ensures.found
          ∙ (ap₂ (λ (xs ys : List Dva). map (found c.meet_all.new.pool.space xs ys) (concrete c.meet_all.new.pool.space)) live metadata
          ∙ ap (λ (x : Space). map (found x c.in_ok-met.met.live.items (metadata_of s c.args.pool.now)) (concrete x)) same)));
    }

pub returns-clause-equal : goal.returns-clause-equal
returns-clause-equal g c = λ s holds sound.
    let same : c.meet_all.new.pool.space ≡ c.args.pool.now.space = ap (λ (p : OpenPool). p.space) c.meet_all.ensures.same in
    let live = c.as_slice.ensures.value in
    let metadata = c.as_slice-2.ensures.value ∙ c.in_ok-met.ensures.metadata s holds in
    let adds : Adds c.meet_all.new.pool.space c.as_slice.result.now sound.saved = subst (λ (x : Space). Adds x c.as_slice.result.now sound.saved) (sym same)
    (subst (λ (xs : List Dva). Adds c.args.pool.now.space xs sound.saved) (sym live) (sound.live c.in_ok-met.met.live.items (c.in_ok-met.ensures.live s holds))) in
    let is_meta : AreMeta c.meet_all.new.pool.space c.as_slice-2.result.now = subst (λ (x : Space). AreMeta x c.as_slice-2.result.now) (sym same)
    (subst (AreMeta c.args.pool.now.space) (sym metadata) sound.metadata) in
    let equal = c.in_ok-counted.ensures.equal sound.saved adds is_meta in
    ap (map (λ (l : AuditLine). l.walked)) c.in_ok-lines_of.ensures.lines
    ∙ (walked_are c.meet_all.new.pool.space c.in_ok-counted.counted.walked c.in_ok-counted.counted.allocated
    ∙ (ap (λ (xs : List ℕ). map (slice_index xs) (concrete c.meet_all.new.pool.space)) equal
    ∙ (sym (allocated_are c.meet_all.new.pool.space c.in_ok-counted.counted.walked c.in_ok-counted.counted.allocated) ∙ sym (ap (map (λ (l : AuditLine). l.allocated)) c.in_ok-lines_of.ensures.lines))))

pub returns-clause-whole : goal.returns-clause-whole
returns-clause-whole g c = λ objects h none s holds metadata. returns-clause-equal g c s holds (read_adds_up _ _ _ c.args.pool.now objects h s holds none metadata)

pub returns-clause-standing : goal.returns-clause-standing
returns-clause-standing g c = λ objects h none trees unsaved no_saved s holds.
    returns-clause-whole g c objects h none s holds (meta_met _ _ _ c.args.pool.now trees s holds c.requires.pool.count unsaved no_saved)

pub returns-in_err-met-clause-stays : goal.returns-in_err-met-clause-stays
returns-in_err-met-clause-stays g c = λ objects h. reading_stays _ _ _ _ _ _ _ _ c.args.pool.now c.meet_all.new.pool objects c.meet_all.ensures.same c.meet_all.ensures.reads h

pub returns-in_err-counted-clause-stays : goal.returns-in_err-counted-clause-stays
returns-in_err-counted-clause-stays g c = λ objects h. reading_stays _ _ _ _ _ _ _ _ c.args.pool.now c.meet_all.new.pool objects c.meet_all.ensures.same c.meet_all.ensures.reads h

pub returns-in_err-lines_of-clause-stays : goal.returns-in_err-lines_of-clause-stays
returns-in_err-lines_of-clause-stays g c = λ objects h. reading_stays _ _ _ _ _ _ _ _ c.args.pool.now c.meet_all.new.pool objects c.meet_all.ensures.same c.meet_all.ensures.reads h

pub returns-clause-stays : goal.returns-clause-stays
returns-clause-stays g c = λ objects h. reading_stays _ _ _ _ _ _ _ _ c.args.pool.now c.meet_all.new.pool objects c.meet_all.ensures.same c.meet_all.ensures.reads h
