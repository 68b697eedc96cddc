-- What a refusal of a part says of the record.
use Rattle.disk_model.specs.declared.fault.DiskFault.{DiskFault}
use Rattle.disk_model.specs.declared.fault.DiskFault.TheVariants as disks
use Rattle.wire_codec.specs.declared.fault.DecodeFault.{DecodeFault}
use Rattle.wire_codec.specs.declared.fault.DecodeFault.TheVariants as decodes
use Rattle.log_record.specs.declared.fault.RecordFault.{RecordFault}
use Rattle.log_record.specs.declared.fault.RecordFault.TheVariants as faults
use Rattle.log_record.specs.declared.fault.StoreFault.{StoreFault}
use Rattle.log_record.specs.declared.fault.StoreFault.TheVariants as stores

-- the same place, or out of memory
abbrev pub as_record : DecodeFault → RecordFault
as_record (decodes.NotEnvelope at) = faults.NotRecord at
as_record decodes.NoMemory = faults.NoMemory

-- the disk failed, or out of memory
abbrev pub as_store : DiskFault → StoreFault
as_store disks.Failed = stores.Failed
as_store disks.NoMemory = stores.NoMemory
