use Rattle.listing.proofs.Laws.{listed-count}
use Rattle.purselist.proofs.main.Goals as goal

pub slice_bounds-write_all-end : goal.slice_bounds-write_all-end
slice_bounds-write_all-end c = listed-count _ _ _ _ c.list_image-m.ensures
