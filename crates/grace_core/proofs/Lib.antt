mod WaitLaws
