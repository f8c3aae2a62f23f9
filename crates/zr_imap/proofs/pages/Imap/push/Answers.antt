use Rattle.std.proofs.Common.{arith, ap, [], ◌∷◌, ◌++◌, length-append}
use Rattle.zr_rules.specs.Mappings.{IsAfterAll}
use Rattle.zr_imap.specs.Pages.{Mapping, all_of}
use Rattle.zr_imap.proofs.Searching.{IsRising-push}
use Rattle.zr_imap.proofs.Paging.{few, mapped_few, mapped_more}
use Rattle.zr_imap.proofs.pages.Imap.push.Goals as goal

pub overflow_add-self : goal.overflow_add-self
overflow_add-self c = omega (arith, few 0 (all_of c.self.inside.pages.items) c.self.invariant.rising (omega arith), c.self.invariant.counted)

pub invariant_of-self-2 : goal.invariant_of-self-2
invariant_of-self-2 c =
    let after : IsAfterAll (all_of c.self.inside.pages.items) c.args.e = rw (ap (λ (m : Mapping). m.entries) c.self.view_is) c.requires.after in
    record {
      are_pages = c.push_in.ensures.pages;
      rising = rw c.in_ok-push_in.ensures.ok (IsRising-push 0 (all_of c.self.inside.pages.items) c.args.e c.self.invariant.rising (omega arith) after c.requires.entry);
      added = rw (c.in_ok-push_in.ensures.ok, mapped_more (all_of c.self.inside.pages.items) c.args.e) (omega (arith, c.self.invariant.added));
      counted = rw (c.in_ok-push_in.ensures.ok, length-append (all_of c.self.inside.pages.items) (c.args.e ∷ [])) (omega (arith, c.self.invariant.counted));
    }

pub overflow_add-self-2 : goal.overflow_add-self-2
overflow_add-self-2 c =
    let after : IsAfterAll (all_of c.self.inside.pages.items) c.args.e = rw (ap (λ (m : Mapping). m.entries) c.self.view_is) c.requires.after in
    let rising = IsRising-push 0 (all_of c.self.inside.pages.items) c.args.e c.self.invariant.rising (omega arith) after c.requires.entry in
    let all = mapped_few 0 (all_of c.self.inside.pages.items ++ c.args.e ∷ []) rising (omega arith) in
    omega (arith, all, mapped_more (all_of c.self.inside.pages.items) c.args.e, c.self.invariant.added)
