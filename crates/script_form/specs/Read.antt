-- The form that the program holds, as a form of the definitions: texts are their bytes.
use Rattle.std.specs.Prelude.{option_map}
use Rattle.std.specs.Option.{option_copied}
use Rattle.script_form.specs.declared.form.UserAct.{UserAct as ActRead}
use Rattle.script_form.specs.declared.form.UserAct.TheVariants.{Call as CallRead, Irq as IrqRead}
use Rattle.script_form.specs.declared.form.UserLine.{UserLine as UserRead}
use Rattle.script_form.specs.declared.form.LineForm.{LineForm as FormRead}
use Rattle.script_form.specs.declared.form.LineForm.TheVariants.{Skip, Version, Func, Depth, Tramps, Absent, Ring, TracingOff, Trigger, User, NewCpu, NewTask, NewLane, Call, Ret, Raise, Lower, After, Register, Unregister, Write, Pids, Enable, Disable, MaxDepth, Until, Load, Unload, Sched}
use Rattle.script_form.specs.Forms.{UserAct, calls, irqs, UserLine, LineForm, skip, version, func, depth, tramps, absent, ring, tracing_off, trigger, user, new_cpu, new_task, new_lane, call, ret, raise, lower, after, register, unregister, write, pids, enable, disable, max_depth, until, load, unload, sched}

-- what a user does at its entry callbacks
abbrev pub act_read : ActRead → UserAct
act_read (CallRead function) = calls function.now
act_read (IrqRead function) = irqs function.now

-- a user as its line declares it
abbrev pub user_read : UserRead → UserLine
user_read line = record {
  name = line.name.now;
  kind = line.kind;
  regs = line.regs;
  ipmodify = option_copied line.ipmodify;
  pid = line.pid;
  act = option_map act_read line.act;
}

-- what a line says
abbrev pub form_read : FormRead → LineForm
form_read Skip = skip
form_read (Version number) = version number
form_read (Func name owner) = func name.now (option_copied owner)
form_read (Depth frames) = depth frames
form_read (Tramps slots) = tramps slots
form_read (Absent owner) = absent owner.now
form_read (Ring entries) = ring entries
form_read TracingOff = tracing_off
form_read (Trigger text) = trigger text.now
form_read (User line) = user (user_read line)
form_read (NewCpu cpu quantum) = new_cpu cpu quantum
form_read (NewTask pid cpu) = new_task pid cpu
form_read (NewLane lane) = new_lane lane
form_read (Call function) = call function.now
form_read Ret = ret
form_read (Raise to) = raise to
form_read Lower = lower
form_read (After commands) = after commands
form_read (Register name) = register name.now
form_read (Unregister name) = unregister name.now
form_read (Write half append name text) = write half append name.now text.now
form_read (Pids excluded list) = pids excluded list.items
form_read (Enable name) = enable name.now
form_read (Disable name) = disable name.now
form_read (MaxDepth frames) = max_depth frames
form_read (Until pid acts) = until pid acts
form_read (Load owner) = load owner.now
form_read (Unload owner) = unload owner.now
form_read (Sched items) = sched items.items
