use Rattle.std.proofs.Common.{◌≡◌, ◌∷◌, List, arith}
use Rattle.zr_base.specs.declared.space.Extent.{Extent}
use Rattle.zr_base.specs.Extents.{IsMaximal}
use Rattle.zr_ranges.proofs.Edits.{count_bound}
use Rattle.zr_ranges.proofs.Cuts.{first_cut}
use Rattle.zr_paged.specs.Pages.{all_of, pages_in}
use Rattle.zr_paged.proofs.PagedSet.push_first.Goals as goal

pub overflow_add-self : goal.overflow_add-self
overflow_add-self c =
    let m : IsMaximal (c.args.e ∷ all_of (pages_in c.self.inside.front)) = rw (← c.self.view_is) at c.requires in
    omega (arith, count_bound (c.args.e ∷ all_of (pages_in c.self.inside.front)) m, c.self.invariant.counted)

pub joined-self-inside-requires : goal.joined-self-inside-requires
joined-self-inside-requires c =
    let es : List Extent = all_of (pages_in c.self.inside.front) in
    let m : IsMaximal (c.args.e ∷ es) = rw (← c.self.view_is) at c.requires in
    (c.args.e ∷ es, es, c.self.invariant.words, first_cut es c.args.e m)

pub invariant_of-self-2 : goal.invariant_of-self-2
invariant_of-self-2 c =
    let es : List Extent = all_of (pages_in c.self.inside.front) in
    let m : IsMaximal (c.args.e ∷ es) = rw (← c.self.view_is) at c.requires in
    let is : all_of (pages_in c.push_in.new.front) ≡ c.args.e ∷ es = c.in_ok-push_in.ensures.ok in
    record {
      front_page = c.in_ok-push_in.ensures.front;
      pages = record { fit = c.in_ok-push_in.ensures.fit; maximal = rw is m };
      counted = rw is (omega (arith, c.self.invariant.counted));
      words = rw is (c.joined-self-inside.ensures (c.args.e ∷ es) es c.self.invariant.words (first_cut es c.args.e m));
    }
