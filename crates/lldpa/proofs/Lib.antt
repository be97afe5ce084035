mod Transcripts
