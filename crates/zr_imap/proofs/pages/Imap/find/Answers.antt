use Rattle.std.proofs.Common.{subst}
use Rattle.zr_imap.specs.Pages.{Mapping, all_of}
use Rattle.zr_imap.specs.Searches.{IsSearchable}
use Rattle.zr_imap.proofs.Searching.{rising_searchable}
use Rattle.zr_imap.proofs.pages.Imap.find.Goals as goal

pub search-requires : goal.search-requires
search-requires g c = record { along = subst (λ (m : Mapping). IsSearchable m.entries c.args.u) c.self.view_is (rising_searchable (all_of c.self.inside.pages.items) c.args.u c.self.invariant.rising) }
