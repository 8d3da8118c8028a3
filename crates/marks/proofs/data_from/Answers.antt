use mathlib.Core.Path.{ap}
use mathlib.Core.Logic.{⊎_elim}
use Rattle.spec.specs.Disk.{is_data_area}
use Rattle.marks.proofs.Laws.{area-low, area-data}
use Rattle.marks.proofs.data_from.Goals as goal

pub returns-in-Header : goal.returns-in-Header
returns-in-Header c =
    area-low _ _ c.area_of.ensures
    (⊎_elim (ap is_data_area) (⊎_elim (ap is_data_area) (⊎_elim (ap is_data_area) (ap is_data_area))) c.in-Header.is)

pub returns-in-Data : goal.returns-in-Data
returns-in-Data c = area-data _ _ c.area_of.ensures (ap is_data_area c.in-Data.is)
