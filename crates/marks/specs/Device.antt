-- The disk of a device that is tested.
use Rattle.spec.specs.Disk.{Disk, blocks_of}
use Rattle.marks.specs.declared.tested.Device.{Device}

abbrev pub disk_of : Device → Disk
disk_of x = blocks_of x.bytes.now
