-- A workload as the work of the machine.
use Rattle.model.specs.Machine.{Work}
use Rattle.table.specs.Settings.{table_of}
use Rattle.workload.specs.Slots.{work_of}
use Rattle.workload.specs.declared.workloads.Workload.{Workload}

-- Its table, its clock, and the slots in use.
abbrev pub work_in : Workload → Work
work_in w = work_of (table_of w.setting) w.clock w.rows
