use Rattle.lldp_program.proofs.Statuses.{run_kept, failed_end, flushed_end}
use Rattle.lldp_program.proofs.program.run_devices.Goals as goal

pub returns-in-Err-clause-ran : goal.returns-in-Err-clause-ran
returns-in-Err-clause-ran g c =
    record {
      result = c.run_trace-ran.result;
      run = run_kept _ _ _ _ _ _ _ _ c.run_trace-ran.ensures.run c.flush-flushed.ensures.octets;
      flushed = c.flush-flushed.result;
      ended = failed_end _ _ _ _ _ _ c.in-Err.is c.tell.ensures.status c.tell.ensures.told;
    }

pub returns-in-Ok-clause-ran : goal.returns-in-Ok-clause-ran
returns-in-Ok-clause-ran g c =
    record {
      result = c.run_trace-ran.result;
      run = run_kept _ _ _ _ _ _ _ _ c.run_trace-ran.ensures.run c.flush-flushed.ensures.octets;
      flushed = c.flush-flushed.result;
      ended = flushed_end _ _ _ _ _ _ c.in-Ok.is c.is_ok.ensures.value c.finish.ensures.well c.finish.ensures.failed;
    }
