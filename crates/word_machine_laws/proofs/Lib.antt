-- general laws
pub mod Effects
pub mod Contents
pub mod PollWords
-- what commands do to a desk: by their effects, and by what they store
pub mod DeskStart
pub mod DeskChanges
pub mod DeskNumbers
pub mod CommandDesks
pub mod DeskSlots
-- room in the clock, and the rule at the start
pub mod Room
pub mod TasksOf
pub mod Start
-- what a row does to what tasks know: a store, an item, a move of a batch, a stage of a site, a row of control
pub mod VerdictLaws
pub mod OtherItems
pub mod Batches
pub mod Sites
pub mod ControlEffects
pub mod NoSwitch
-- control's rows in a command: sites, list, copies, trampolines, traced tasks and depth
pub mod SiteSyncs
pub mod SiteRows
pub mod UserList
pub mod ListRows
pub mod SetCopy
pub mod SetSelect
pub mod TrampRows
pub mod LimitRows
-- a task's marks
pub mod Stacks
pub mod Marks
pub mod Visiting
pub mod MarkDispatch
pub mod MarkEnter
pub mod MarkBody
pub mod MarkReturn
-- a task's loads
pub mod LoadMoments
pub mod LoadFetch
pub mod LoadTests
pub mod OwnWord
pub mod LoadOwn
pub mod PlainUsers
pub mod LoadList
pub mod LoadReturn
-- each row of a CPU
pub mod TaskSteps
pub mod Finished
pub mod PollTasks
pub mod PollSteps
pub mod LookRows
pub mod PollRows
-- each row of control
pub mod WaitRows
pub mod NoneCalled
pub mod ControlLine
pub mod ControlBegin
pub mod ControlClose
pub mod ControlRows
-- the whole machine: the rule, histories, sites, values
pub mod Waits
pub mod Steps
pub mod Ends
pub mod Lengths
pub mod Marked
pub mod Settled
pub mod DispatchValues
pub mod OpenCalls
pub mod Takes
pub mod Never
-- jobs within the limits, and 64 bits
pub mod Limited
pub mod WordsFit
-- what the layer that steps on real words asks for
pub mod There
pub mod FrameRoom
pub mod CpuTakes
pub mod Stops
pub mod ValueLaws
-- a worked example, of which the laws speak
mod Sample
mod OrderSamples
pub mod LedLists
pub mod LedDesks
pub mod LedControls
pub mod LedCpus
pub mod LedLimits
pub mod LedOrders
