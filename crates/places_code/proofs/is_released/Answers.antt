use Rattle.places_code.proofs.is_released.Goals as goal

pub returns-in-Demount : goal.returns-in-Demount
returns-in-Demount c = simp c.in-Demount.is

pub returns-in-NexusLoss : goal.returns-in-NexusLoss
returns-in-NexusLoss c = simp c.in-NexusLoss.is

pub returns-in-DeviceLoss : goal.returns-in-DeviceLoss
returns-in-DeviceLoss c = simp c.in-DeviceLoss.is

pub returns-in-Preempt : goal.returns-in-Preempt
returns-in-Preempt c = simp c.in-Preempt.is

pub returns-in-Microcode : goal.returns-in-Microcode
returns-in-Microcode c = simp c.in-Microcode.is

pub returns-in-VendorRelease : goal.returns-in-VendorRelease
returns-in-VendorRelease c = simp c.in-VendorRelease.is
